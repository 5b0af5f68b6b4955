-- Document 01's numbers: when each is given, and in which order.
use Rattle.std.specs.Prelude.{ℕ, zero, suc, List, Bool, ◌&&◌, ◌||◌, cond, length, ltb, leb, Result, Ok, Err}
use Rattle.bins.specs.declared.state.Engine.{Engine}
use Rattle.bins.specs.Bits.{ends, past_most}
use Rattle.bins.specs.Engine.{place}

-- what an entry point answers: 0 with what it gives, or the number of the refusal
pub data Answer (A : Type 0) : Type 0 where
  accepted : A → Answer A
  refused : ℕ → Answer A

-- the first of the numbers that is given
infixr 25 ◌or_else◌
unfoldable pub ◌or_else◌ : ℕ → ℕ → ℕ
zero or_else m = m
suc n or_else m = suc n

-- a number of document 01 as a check answers it: 0 refuses nothing
unfoldable pub checked : ℕ → Result (Unit {0}) ℕ
checked zero = Ok tt
checked (suc n) = Err (suc n)

unfoldable pub unless : {A : Type 0} → ℕ → A → Answer A
unless zero a = accepted a
unless (suc n) a = refused (suc n)

-- 1: payload under 2 bytes; 2: over 16,777,216
unfoldable pub payload_refusal : List ℕ → ℕ
payload_refusal l = cond (ltb (length l) 2) 1 (cond (ltb 16777216 (length l)) 2 0)

-- 3: a position beyond 8 times the payload length; a total past the end above 65,535; or, unless ended, not 256 ≤ range ≤ 510 with offset < range
unfoldable pub possible : List ℕ → Engine → Bool
possible l e =
    leb (place e) (ends l)
    && (leb e.past past_most && (e.ended || (leb 256 e.range && (leb e.range 510 && ltb e.offset e.range))))

unfoldable pub state_refusal : List ℕ → Engine → ℕ
state_refusal l e = cond (possible l e) 0 3

-- 3: a context byte above 127
unfoldable pub context_refusal : ℕ → ℕ
context_refusal ctx = cond (ltb 127 ctx) 3 0

-- 4: a bit count above 32
unfoldable pub count_refusal : ℕ → ℕ
count_refusal c = cond (ltb 32 c) 4 0

-- 5: a starting offset of 510 or 511
unfoldable pub offset_refusal : Engine → ℕ
offset_refusal e = cond (leb 510 e.offset) 5 0

-- 6: the engine has ended
unfoldable pub ended_refusal : Engine → ℕ
ended_refusal e = cond e.ended 6 0

-- 7: alignment wanted while the offset is 256 or more
unfoldable pub alignment_refusal : Engine → ℕ
alignment_refusal e = cond (leb 256 e.offset) 7 0

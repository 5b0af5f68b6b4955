-- The rest of the payload: an answer for each way out, and that its two numbers name the rest itself. They assume nothing.
use Rattle.std.specs.Prelude.{ℕ, zero, suc, ◌+◌, ◌-◌, ◌≤◌, ◌<◌, ◌≡◌, refl, Bool, true, false, drop, eqb, Result, Ok, Err}
use Rattle.std.proofs.Math.Path.{sym, subst}
use Rattle.std.proofs.Common.{ap, ◌∙◌, arith, length-drop}
use Rattle.std.proofs.Math.Bool.{cond}
use mathlib.Core.List.{List, [], ◌∷◌}
use Rattle.std.proofs.Math.ListN.{length}
use Rattle.std.proofs.Math.Seq.{drop-length}
use Rattle.std.proofs.Math.Nat.{sub-zero}
use borrow.Author.Tests.{ne_eqb}
use Rattle.bins.specs.declared.state.Engine.{Engine}
use Rattle.bins.specs.Engine.{aligned_byte, byte_aligned}
use Rattle.cabac.specs.Numbers.{Answer, accepted, refused, ◌or_else◌, unless, payload_refusal, state_refusal}
use Rattle.cabac.specs.NumberLaws.{or_else_assoc, or_else_first, or_else_zero}
use Rattle.cabac.specs.Entries.{state_says, byte_align, rest_of}
use Rattle.bulmegart.specs.declared.records.EngineState.{EngineState}
use Rattle.bulmegart.specs.Records.{state_flags, engine_of}
use Rattle.bulmegart_engine.specs.declared.engine.RestAnswer.{RestAnswer}
use Rattle.bulmegart_engine.specs.Exported.{state_no, rest_number, rest_bytes, rest_given}

-- ---- the rest of the payload
module _ (l : List ℕ) (s : EngineState) where
  refused_rest : (n : ℕ) → (n ≡ 0 → ⊥) → n ≡ rest_number l s → record { number = n; first = length l; length = 0 } ≡ rest_given l s
  unfolding rest_bytes
  refused_rest n h q = rw (sym q, ne_eqb n 0 h) (ap (λ k. record { number = n; first = k; length = 0 }) (omega arith))

  pub rest_no : (n : ℕ) → n ≡ (payload_refusal l or_else state_flags s) → (n ≡ 0 → ⊥)
      → record { number = n; first = length l; length = 0 } ≡ rest_given l s
  unfolding rest_number
  rest_no n q h =
      refused_rest n h
      (or_else_first n (payload_refusal l or_else state_flags s) (state_refusal l (engine_of s)) q h
      ∙ or_else_assoc (payload_refusal l) (state_flags s) (state_refusal l (engine_of s)))

-- the number of an answer
answer_no : {A : Type 0} → Answer A → ℕ
answer_no (accepted a) = 0
answer_no (refused n) = n

unless_number : {A : Type 0} (k : ℕ) (a : A) → answer_no (unless k a) ≡ k
unfolding answer_no unless
unless_number zero a = refl
unless_number (suc k) a = refl

state_number : (r : Result Engine ℕ) → state_no r ≡ answer_no (state_says r)
unfolding answer_no
state_number (Ok e) = refl
state_number (Err n) = refl

align_number : (l : List ℕ) (e : Engine) (r : Result Engine ℕ) → state_says r ≡ byte_align l e → state_no r ≡ (payload_refusal l or_else state_refusal l e)
unfolding byte_align
align_number l e r q =
    state_number r ∙ ap answer_no q ∙ unless_number (payload_refusal l or_else state_refusal l e) (byte_aligned e)

twice : (b : Bool) (x : List ℕ) → cond b (cond b x []) [] ≡ cond b x []
twice true x = refl
twice false x = refl

-- where the checks pass, the rest is that of the number that byte alignment gives
module _ (l : List ℕ) (s : EngineState) where
  rest_number_lem : 0 ≡ (payload_refusal l or_else state_flags s) → rest_number l s ≡ (payload_refusal l or_else state_refusal l (engine_of s))
  unfolding rest_number ◌or_else◌
  rest_number_lem q = let z = or_else_zero (payload_refusal l) (state_flags s) q in rw (sym z.0, sym z.1)

  rest_same : (k : ℕ) → k ≡ (payload_refusal l or_else state_refusal l (engine_of s)) → cond (eqb k 0) (rest_of l (engine_of s)) [] ≡ rest_of l (engine_of s)
  unfolding rest_of
  rest_same k q =
      subst (λ j. cond (eqb j 0) (rest_of l (engine_of s)) [] ≡ rest_of l (engine_of s)) (sym q)
      (twice (eqb (payload_refusal l or_else state_refusal l (engine_of s)) 0) (drop (aligned_byte (engine_of s)) l))

  rest_bytes_lem : 0 ≡ (payload_refusal l or_else state_flags s) → rest_bytes l s ≡ rest_of l (engine_of s)
  unfolding rest_bytes
  rest_bytes_lem q = rest_same (rest_number l s) (rest_number_lem q)

  pub rest_yes : (n m len : ℕ) (r : Result Engine ℕ) (e : Engine) (part : List ℕ)
      → n ≡ (payload_refusal l or_else state_flags s)
      → n ≡ 0
      → e ≡ engine_of s
      → part ≡ rest_of l e
      → len ≡ length part
      → state_says r ≡ byte_align l e
      → m ≡ state_no r
      → record { number = m; first = length l - len; length = len } ≡ rest_given l s
  rest_yes n m len r e part q z h p k b w =
      let passed = sym z ∙ q in
      let number = w ∙ align_number l e r b ∙ ap (λ (x : Engine). payload_refusal l or_else state_refusal l x) h ∙ sym (rest_number_lem passed) in
      let bytes = k ∙ ap length (p ∙ ap (rest_of l) h ∙ sym (rest_bytes_lem passed)) in
      rw (number, bytes) refl

cut_fits : (l : List ℕ) (k : ℕ) (b : Bool) → length (cond b (drop k l) []) ≤ length l
cut_fits l k true = omega (arith, length-drop k l)
cut_fits l k false = omega arith

pub rest_fits : (l part : List ℕ) (e : Engine) (len : ℕ) → part ≡ rest_of l e → len ≡ length part → len ≤ length l
unfolding rest_of
rest_fits l part e len p k =
    subst (λ x. x ≤ length l) (sym (k ∙ ap length p)) (cut_fits l (aligned_byte e) (eqb (payload_refusal l or_else state_refusal l e) 0))

sub_self : (n : ℕ) → n - n ≡ 0
sub_self n = omega arith

longer : (n m : ℕ) → m ≤ n → suc n - m ≡ suc (n - m)
longer n m h = omega arith

-- ---- the part of the payload that the two numbers name is the rest itself
drop_back : (l : List ℕ) (k : ℕ) → drop (length l - length (drop k l)) l ≡ drop k l
drop_back [] zero = refl
drop_back [] (suc k) = refl
drop_back (x ∷ l) zero = rw (sub_self (length (x ∷ l))) refl
drop_back (x ∷ l) (suc k) = rw (longer (length l) (length (drop k l)) (omega (arith, length-drop k l))) (drop_back l k)

part_of : (l : List ℕ) (k : ℕ) (a b : Bool) → let r = cond a (cond b (drop k l) []) [] in drop (length l - length r) l ≡ r
part_of l k true true = drop_back l k
part_of l k true false = rw (sub-zero (length l)) (drop-length l)
part_of l k false b = rw (sub-zero (length l)) (drop-length l)

pub rest_part : (l : List ℕ) (s : EngineState) → drop (rest_given l s).first l ≡ rest_bytes l s
unfolding rest_bytes rest_of
rest_part l s =
    part_of l (aligned_byte (engine_of s)) (eqb (rest_number l s) 0) (eqb (payload_refusal l or_else state_refusal l (engine_of s)) 0)

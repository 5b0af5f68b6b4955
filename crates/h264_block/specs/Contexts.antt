-- Contexts: what a pair m, n makes of one (H.264 9.3.1.1), by document 01's clipped formula.
use Rattle.std.specs.Prelude.{ℕ, zero, suc, ◌+◌, ◌-◌, ◌*◌, ◌/◌, min, max, List, [], ◌∷◌, Bool, true, false, ◌&&◌, cond, length, leb, ltb, eqb, ℤ, pos, negsuc}
use Rattle.cabac.specs.Contexts.{packed}
use Rattle.h264_block.specs.Layout.{pair_count}

-- a number of −128 to 127, raised by 128 to be a natural one
unfoldable pub raised : ℤ → ℕ
raised (pos m) = m + 128
raised (negsuc m) = 127 - m

unfoldable pub within : ℤ → Bool
within (pos m) = ltb m 128
within (negsuc m) = ltb m 128

-- p = floor(m·q/16) + n, raised by 408 + 128: m·q is never under −128·51 = −16·408
unfoldable pub pre_raised : ℤ → ℤ → ℕ → ℕ
unfolding raised
pre_raised m n q = (raised m * q + 16 * 408 - 128 * q) / 16 + raised n

-- held to 1..126, with the 536 taken off
abbrev pub held : ℕ → ℕ
held p = min 126 (max 1 (p - 536))

-- the packed context of a pair m, n at a quantiser q, which counts as 51 above 51
unfoldable pub initial : ℤ → ℤ → ℕ → ℕ
unfolding pre_raised
initial m n q = packed (held (pre_raised m n (min q 51)))

-- pairs stand one after the other, m before n; a number without its n is no pair
unfoldable pub initial_all : ℕ → List ℤ → List ℕ
unfolding initial
initial_all q [] = []
initial_all q (m ∷ []) = []
initial_all q (m ∷ n ∷ l) = initial m n q ∷ initial_all q l

-- 4: a count of pairs that isn't 40, or a number outside −128 to 127
unfoldable pub all_within : List ℤ → Bool
unfolding within
all_within [] = true
all_within (m ∷ l) = within m && all_within l

unfoldable pub pairs_refusal : List ℤ → ℕ
unfolding all_within
pairs_refusal pairs = cond (eqb (length pairs) (2 * pair_count) && all_within pairs) 0 4

-- the lent contexts behind a call that gave the number n
unfoldable pub contexts_after : ℕ → List ℕ → List ℤ → ℕ → List ℕ
unfolding initial_all
contexts_after zero cs pairs q = initial_all q pairs
contexts_after (suc n) cs pairs q = cs

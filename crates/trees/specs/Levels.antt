-- A level by its sign and magnitude, the range that it lies in, what is told of several, and the places of which a test holds. No syntax is named.
use Rattle.std.specs.Prelude.{ℕ, zero, suc, ◌^◌, max, List, [], ◌∷◌, Bool, true, false, not, ◌&&◌, ◌||◌, cond, ltb, leb, eqb, ℤ, pos, negsuc, nat_abs}

abbrev pub negative : ℤ → Bool
negative (pos n) = false
negative (negsuc n) = true

abbrev pub signed : Bool → ℕ → ℤ
signed true (suc m) = negsuc m
signed true zero = pos 0
signed false m = pos m

-- whether a level lies in −2^T to 2^T−1, by its sign and its magnitude m
abbrev pub in_range : ℕ → Bool → ℕ → Bool
in_range T true m = leb m (2 ^ T)
in_range T false m = ltb m (2 ^ T)

-- ---- several levels
-- the greatest magnitude
unfoldable pub greatest_of : List ℤ → ℕ
greatest_of [] = 0
greatest_of (v ∷ l) = max (nat_abs v) (greatest_of l)

-- 9: all levels are zero
unfoldable pub all_zero : List ℤ → Bool
all_zero [] = true
all_zero (v ∷ l) = eqb (nat_abs v) 0 && all_zero l

-- 8: a level is outside the range
unfoldable pub too_far : ℕ → List ℤ → Bool
too_far T [] = false
too_far T (v ∷ l) = not (in_range T (negative v) (nat_abs v)) || too_far T l

-- ---- places
-- the places below n of which s holds, highest first
unfoldable pub down_from : (ℕ → Bool) → ℕ → List ℕ
down_from s zero = []
down_from s (suc k) = cond (s k) (k ∷ down_from s k) (down_from s k)

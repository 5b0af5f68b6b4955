-- What the code takes out of a block for one sub-block, and what that says of the block wanted.
use Rattle.std.specs.Prelude.{ℕ, zero, suc, ◌+◌, ◌*◌, ◌^◌, ◌<◌, max, ◌≡◌, Bool, List, ℤ, pos, nat_abs, ltb, get_or}
use Rattle.hevc_residual.specs.declared.params.Params.{Params}
use Rattle.hevc_residual.specs.Wanted.{Wanted}

-- the 16 levels are those wanted at the places of a sub-block's scan
abbrev pub Shows : (ℕ → Wanted → ℤ) → Wanted → List ℤ → Type 0
Shows lv w levels = (k : ℕ) → k < 16 → get_or levels k (pos 0) ≡ lv k w

-- whether place k has a level
abbrev pub is_level : List ℤ → ℕ → Bool
is_level levels k = ltb 0 (nat_abs (get_or levels k (pos 0)))

-- the sum of the magnitudes at the places below n
unfoldable pub sum_below : List ℤ → ℕ → ℕ
sum_below levels zero = 0
sum_below levels (suc k) = nat_abs (get_or levels k (pos 0)) + sum_below levels k

-- the greatest magnitude of the four levels from cell `at` on
abbrev pub size_at : List ℤ → ℕ → ℕ
size_at block at = nat_abs (get_or block at (pos 0))

abbrev pub row_most : List ℤ → ℕ → ℕ
row_most block at = max (max (size_at block at) (size_at block (at + 1))) (max (size_at block (at + 2)) (size_at block (at + 3)))

-- the first cell in row j of sub-block (xs, ys)
abbrev pub row_at : Params → ℕ → ℕ → ℕ → ℕ
row_at p xs ys j = (4 * ys + j) * 2 ^ p.log2 + 4 * xs

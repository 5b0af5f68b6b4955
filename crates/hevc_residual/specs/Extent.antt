-- The extents of a block: the greatest column and the greatest row that hold a non-zero level (request (iii)), and what that says of the block.
use Rattle.std.specs.Prelude.{ℕ, suc, ◌/◌, ◌%◌, ◌^◌, ◌<◌, max, ◌≡◌, List, [], ◌∷◌, cond, ltb, ℤ, pos, nat_abs, get_or, take}
use Rattle.hevc_residual.specs.declared.params.Params.{Params}
use Rattle.hevc_residual.specs.Scan.{spot}
use Rattle.hevc_residual.specs.Wanted.{area, cell_of}

-- the greatest coordinate of a place that holds a non-zero level, the list starting at place i; 0 if there is none
unfoldable pub reach_of : (ℕ → ℕ) → ℕ → List ℤ → ℕ
reach_of coordinate i [] = 0
reach_of coordinate i (v ∷ l) = max (cond (ltb 0 (nat_abs v)) (coordinate i) 0) (reach_of coordinate (suc i) l)

-- n, the columns or rows of a block
abbrev pub side : Params → ℕ
side p = 2 ^ p.log2

-- a block stands row by row
abbrev pub column_at : Params → ℕ → ℕ
column_at p i = i % side p

abbrev pub row_at : Params → ℕ → ℕ
row_at p i = i / side p

-- the two extents, of a block's n·n levels
unfoldable pub column_extent_of : Params → List ℤ → ℕ
unfolding reach_of
column_extent_of p levels = reach_of (column_at p) 0 levels

unfoldable pub row_extent_of : Params → List ℤ → ℕ
unfolding reach_of
row_extent_of p levels = reach_of (row_at p) 0 levels

-- ---- what a transform may rely on, of a lent block whose first n·n places hold the levels
-- the level in column x and row y
abbrev pub level_in : Params → List ℤ → ℕ → ℕ → ℤ
level_in p block x y = get_or block (cell_of p (spot x y)) (pos 0)

pub record Extents (p : Params) (block : List ℤ) (column row : ℕ) : Type 0 where
  -- both are as defined, and lie in the block
  pub is_column_extent : column ≡ column_extent_of p (take (area p) block)
  pub is_row_extent : row ≡ row_extent_of p (take (area p) block)
  pub column_inside : column < side p
  pub row_inside : row < side p
  -- every place in a column beyond the column extent is zero, and every place in a row beyond the row extent
  pub columns_beyond_are_zero : (x y : ℕ) → x < side p → y < side p → column < x → level_in p block x y ≡ pos 0
  pub rows_beyond_are_zero : (x y : ℕ) → x < side p → y < side p → row < y → level_in p block x y ≡ pos 0
  -- some place in that column is not zero, and some place in that row: so neither extent can be smaller
  pub column_holds_one : (y : ℕ) × (y < side p) × (level_in p block column y ≡ pos 0 → ⊥)
  pub row_holds_one : (x : ℕ) × (x < side p) × (level_in p block x row ≡ pos 0 → ⊥)

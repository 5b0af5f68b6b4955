-- Scans as the code has them: rows of two, column and row.
use Rattle.std.specs.Prelude.{ℕ, ◌<◌, ◌≡◌, List, [], ◌∷◌, length, get_or}
use Rattle.hevc_residual.specs.Scan.{Spot, spot}

abbrev pub pair : Spot → List ℕ
pair s = s.x ∷ s.y ∷ []

unfoldable pub pairs_of : List Spot → List (List ℕ)
pairs_of [] = []
pairs_of (s ∷ l) = pair s ∷ pairs_of l

-- the first n rows are the first n places of l
pub record Orders (n : ℕ) (l : List Spot) (r : List (List ℕ)) : Type 0 where
  pub row : (i : ℕ) → i < n → get_or r i [] ≡ pair (get_or l i (spot 0 0))

-- r begins with the rows of few
pub record Begins (few r : List (List ℕ)) : Type 0 where
  pub row : (i : ℕ) → i < length few → get_or r i [] ≡ get_or few i []

-- ctx_idx_map in rows of four
unfoldable pub map_rows : List (List ℕ)
map_rows = (0 ∷ 1 ∷ 4 ∷ 5 ∷ []) ∷ (2 ∷ 3 ∷ 4 ∷ 5 ∷ []) ∷ (6 ∷ 6 ∷ 8 ∷ 8 ∷ []) ∷ (7 ∷ 7 ∷ 8 ∷ 99 ∷ []) ∷ []

-- Scan orders (H.265 6.5.3 to 6.5.5) and the contexts of sig_coeff_flag (9.3.4.2.5), worked out by rule.
use Rattle.std.specs.Prelude.{ℕ, zero, suc, ◌+◌, ◌-◌, ◌*◌, ◌/◌, ◌%◌, List, [], ◌∷◌, ◌++◌, Bool, true, false, ◌&&◌, cond, get_or, ltb, eqb}
use Rattle.hevc_residual.specs.Layout.{in_chroma}

-- a place: column, row
pub record Spot : Type 0 where
  pub x : ℕ
  pub y : ℕ

abbrev pub spot : ℕ → ℕ → Spot
spot a b = record { x = a; y = b }

-- ---- scans over a w×w grid
-- up-right diagonal (6.5.3): of the places (s − y, y) of diagonal s those with y < n that lie in the grid, lowest first
unfoldable pub on_diagonal : ℕ → ℕ → ℕ → List Spot
on_diagonal w s zero = []
on_diagonal w s (suc y) = let r = on_diagonal w s y in cond (ltb y w && ltb (s - y) w) (spot (s - y) y ∷ r) r

-- n diagonals, from diagonal s on
unfoldable pub diagonals : ℕ → ℕ → ℕ → List Spot
unfolding on_diagonal
diagonals w zero s = []
diagonals w (suc n) s = on_diagonal w s (suc s) ++ diagonals w n (suc s)

-- horizontal (6.5.4): n places of row y, from column x on
unfoldable pub row : ℕ → ℕ → ℕ → List Spot
row zero x y = []
row (suc n) x y = spot x y ∷ row n (suc x) y

-- n rows, from row y on
unfoldable pub rows : ℕ → ℕ → ℕ → List Spot
unfolding row
rows w zero y = []
rows w (suc n) y = row w 0 y ++ rows w n (suc y)

-- vertical (6.5.5): the horizontal scan with columns for rows
unfoldable pub turned : List Spot → List Spot
turned [] = []
turned (s ∷ l) = spot s.y s.x ∷ turned l

-- ScanOrder: the places of a w×w grid in the order of scanIdx 0, 1 or 2
unfoldable pub scan_order : ℕ → ℕ → List Spot
unfolding diagonals rows turned
scan_order w zero = diagonals w (w + w - 1) 0
scan_order w (suc zero) = rows w w 0
scan_order w (suc (suc i)) = turned (rows w w 0)

-- the number of place (x, y) in a scan order
unfoldable pub number_in : List Spot → ℕ → ℕ → ℕ
number_in [] x y = 0
number_in (s ∷ l) x y = elim (eqb s.x x && eqb s.y y) [ true ↦ 0 | false ↦ suc (number_in l x y) ]

-- ---- contexts of sig_coeff_flag (9.3.4.2.5)
-- ctx_idx_map (document 01's MAP4): a 4x4 block's, row by row; place 15 is never asked for
unfoldable pub ctx_idx_map : List ℕ
ctx_idx_map = 0 ∷ 1 ∷ 4 ∷ 5 ∷ 2 ∷ 3 ∷ 4 ∷ 5 ∷ 6 ∷ 6 ∷ 8 ∷ 8 ∷ 7 ∷ 7 ∷ 8 ∷ 99 ∷ []

-- 2 at 0, 1 from there to below the bound, 0 from the bound on
abbrev pub falling : ℕ → ℕ → ℕ
falling bound v = cond (eqb v 0) 2 (cond (ltb v bound) 1 0)

-- by which neighbours are coded, right and below, at (xP, yP) within the sub-block
abbrev pub by_neighbours : Bool → Bool → ℕ → ℕ → ℕ
by_neighbours false false xP yP = falling 3 (xP + yP)
by_neighbours true false xP yP = falling 2 yP
by_neighbours false true xP yP = falling 2 xP
by_neighbours true true xP yP = 2

-- what luma adds to that: by whether the sub-block (xS, yS) is the first, and by size and scan
unfoldable pub luma_plus : ℕ → ℕ → ℕ → ℕ → ℕ
luma_plus log2 scan xS yS = cond (ltb 0 (xS + yS)) 3 0 + cond (eqb log2 3) (cond (eqb scan 0) 9 15) 21

-- and what chroma adds
abbrev pub chroma_plus : ℕ → ℕ
chroma_plus log2 = cond (eqb log2 3) 9 12

-- sig_ctx at place (xC, yC) of the block; every chroma number takes 27
unfoldable pub sig_ctx : ℕ → Bool → ℕ → Bool → Bool → ℕ → ℕ → ℕ
unfolding ctx_idx_map luma_plus
sig_ctx log2 luma scan right below xC yC =
    in_chroma luma 27
    + elim (eqb log2 2) [
      | true ↦ get_or ctx_idx_map (yC * 4 + xC) 0
      | false ↦ elim (eqb (xC + yC) 0) [
        | true ↦ 0
        | false ↦
            by_neighbours right below (xC % 4) (yC % 4) + cond luma (luma_plus log2 scan (xC / 4) (yC / 4)) (chroma_plus log2)
      ]
    ]

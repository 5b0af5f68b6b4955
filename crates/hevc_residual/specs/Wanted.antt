-- A block as a writer is handed it, and what it holds at the places of a sub-block.
use Rattle.std.specs.Prelude.{ℕ, zero, suc, ◌+◌, ◌-◌, ◌*◌, ◌^◌, List, [], ◌∷◌, Bool, true, false, cond, get_or, ltb, ℤ, pos, negsuc, nat_abs}
use Rattle.bins.specs.Syn.{Syn}
pub use Rattle.trees.specs.Levels.{negative}
unfoldable pub use Rattle.trees.specs.Levels.{down_from}
use Rattle.hevc_residual.specs.declared.params.Params.{Params}
use Rattle.hevc_residual.specs.declared.params.Rdpcm.{Rdpcm}
use Rattle.hevc_residual.specs.Scan.{Spot, spot, scan_order}

-- what is wanted read: beside each bin of the tree stands what it is where this is written
pub record Wanted : Type 0 where
  pub skip : Bool
  pub rdpcm : Rdpcm
  pub levels : List ℤ  -- n·n, row by row

abbrev pub S : Type 0 → Type 0
S A = Syn Wanted A

-- n·n
abbrev pub area : Params → ℕ
area p = 4 ^ p.log2

-- where place (x, y) stands in the block, row by row
abbrev pub cell_of : Params → Spot → ℕ
cell_of p s = s.y * 2 ^ p.log2 + s.x

-- the level wanted at a place
abbrev pub level_at : Params → Wanted → Spot → ℤ
level_at p w s = get_or w.levels (cell_of p s) (pos 0)

-- ---- sub-blocks, 4x4 each
-- how many stand in a row
abbrev pub width : Params → ℕ
width p = 2 ^ (p.log2 - 2)

-- the scan of a block's sub-blocks, and of the 16 places in one
abbrev pub outer_of : Params → List Spot
outer_of p = scan_order (width p) p.scan

abbrev pub inner_of : Params → List Spot
inner_of p = scan_order 4 p.scan

-- (xC, yC) of place k of the scan of sub-block (xS, yS) (7.3.8.11)
unfoldable pub spot_in : List Spot → Spot → ℕ → Spot
spot_in inner s k = let q = get_or inner k (spot 0 0) in spot (4 * s.x + q.x) (4 * s.y + q.y)

-- and the level wanted there
unfoldable pub wanted_in : Params → List Spot → Spot → ℕ → Wanted → ℤ
unfolding spot_in
wanted_in p inner s k t = level_at p t (spot_in inner s k)

-- where lv says what level is wanted at a place of a sub-block's scan: whether it is not 0, and whether its magnitude is above 1
abbrev pub is_sig : (ℕ → Wanted → ℤ) → Wanted → ℕ → Bool
is_sig lv t k = ltb 0 (nat_abs (lv k t))

abbrev pub is_big : (ℕ → Wanted → ℤ) → Wanted → ℕ → Bool
is_big lv t k = ltb 1 (nat_abs (lv k t))

-- ---- places of a scan, highest first
unfoldable pub none : List ℕ → Bool
none [] = true
none (k ∷ ks) = false

-- the lowest of k ∷ ks
unfoldable pub last_of : List ℕ → ℕ → ℕ
last_of [] k = k
last_of (j ∷ ks) k = last_of ks j

-- the significant places that are wanted of a sub-block
abbrev pub sig_places : (ℕ → Wanted → ℤ) → Wanted → List ℕ
sig_places lv t = down_from (is_sig lv t) 16

-- The contexts of a sub-block's flags as the code has them: a number with four bits a place, in the order of the scan.
use Rattle.std.specs.Prelude.{ℕ, ◌+◌, ◌*◌, ◌/◌, ◌%◌, ◌^◌, leb, get_or}
use Rattle.bins.specs.Readers.{odd}
use Rattle.hevc_residual.specs.Scan.{Spot, spot, scan_order, by_neighbours, ctx_idx_map}

-- the four bits of place k
abbrev pub four_at : ℕ → ℕ → ℕ
four_at word k = word / 16 ^ k % 16

-- place k of a sub-block's scan
abbrev pub place_in : ℕ → ℕ → Spot
place_in scan k = get_or (scan_order 4 scan) k (spot 0 0)

-- a 4x4 block's context there
abbrev pub map_at : ℕ → ℕ → ℕ
map_at scan k = get_or ctx_idx_map ((place_in scan k).y * 4 + (place_in scan k).x) 0

-- a larger block's, by the number of neighbours: right 1, below 2
abbrev pub near_at : ℕ → ℕ → ℕ → ℕ
near_at neighbours scan k = by_neighbours (odd neighbours) (leb 2 neighbours) (place_in scan k).x (place_in scan k).y

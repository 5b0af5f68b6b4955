use mathlib.Core.Path.{refl}
use Rattle.hevc_scans.specs.Pairs.{map_rows}
use Rattle.hevc_significance.proofs.significance.map4.Goals as goal

-- `map4` meets its contract, by computing. Assumes nothing.
pub returns : goal.returns
unfolding map_rows
returns c = refl

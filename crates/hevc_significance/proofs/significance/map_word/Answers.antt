use native.Mathlib.Omega.{arith}
use Rattle.hevc_residual.specs.Scan.{scan_order, ctx_idx_map}
use Rattle.hevc_scans.specs.SigLaws.{map_word}
use Rattle.hevc_significance.proofs.significance.map_word.Goals as goal

-- `map_word` meets its contract, by computing. Assumes nothing.
pub returns-in-0 : goal.returns-in-0
unfolding scan_order ctx_idx_map
returns-in-0 c = map_word _ 0 _ c.in-0.is tt

pub returns-in-1 : goal.returns-in-1
unfolding scan_order ctx_idx_map
returns-in-1 c = map_word _ 1 _ c.in-1.is tt

pub returns-in_default : goal.returns-in_default
unfolding scan_order ctx_idx_map
returns-in_default c = map_word _ 2 c.args.scan (omega arith) tt

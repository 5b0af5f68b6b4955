use mathlib.Core.Path.{refl}
use native.Mathlib.Omega.{arith}
use Rattle.hevc_residual.specs.Scan.{scan_order}
use Rattle.hevc_scans.specs.SigLaws.{near_word, near_sides}
use Rattle.hevc_significance.proofs.significance.near_word.Goals as goal

-- `near_word` meets its contract, by computing. Assumes nothing.
pub returns-in-0-scan : goal.returns-in-0-scan
unfolding scan_order
returns-in-0-scan c = near_word _ 0 0 _ _ c.in-0.is c.in-0-scan.is tt

pub returns-in_default-scan : goal.returns-in_default-scan
unfolding scan_order
returns-in_default-scan c = near_sides _ 0 _ c.args.scan c.in-0.is (λ e. omega arith) c.requires.1 tt tt

pub returns-in-0-scan-2 : goal.returns-in-0-scan-2
unfolding scan_order
returns-in-0-scan-2 c = near_word _ 1 0 _ _ c.in-1.is c.in-0-scan-2.is tt

pub returns-in-1-scan : goal.returns-in-1-scan
unfolding scan_order
returns-in-1-scan c = near_word _ 1 1 _ _ c.in-1.is c.in-1-scan.is tt

pub returns-in_default-scan-2 : goal.returns-in_default-scan-2
unfolding scan_order
returns-in_default-scan-2 c = near_word _ 1 2 _ c.args.scan c.in-1.is (omega arith) tt

pub returns-in-0-scan-3 : goal.returns-in-0-scan-3
unfolding scan_order
returns-in-0-scan-3 c = near_word _ 2 0 _ _ c.in-2.is c.in-0-scan-3.is tt

pub returns-in-1-scan-2 : goal.returns-in-1-scan-2
unfolding scan_order
returns-in-1-scan-2 c = near_word _ 2 1 _ _ c.in-2.is c.in-1-scan-2.is tt

pub returns-in_default-scan-3 : goal.returns-in_default-scan-3
unfolding scan_order
returns-in_default-scan-3 c = near_word _ 2 2 _ c.args.scan c.in-2.is (omega arith) tt

pub returns-in_default : goal.returns-in_default
unfolding scan_order
returns-in_default c = near_word _ 3 c.args.scan c.args.neighbours _ (omega arith) refl tt

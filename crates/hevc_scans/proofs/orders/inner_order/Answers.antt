use mathlib.Core.Path.{◌≡◌, refl}
use native.Mathlib.Omega.{arith}
use Rattle.hevc_residual.specs.Scan.{scan_order}
use Rattle.hevc_scans.specs.Pairs.{pairs_of}
use Rattle.hevc_scans.proofs.orders.inner_order.Goals as goal

-- `inner_order` meets its contract, by computing. Assumes nothing.
pub returns-in-0 : goal.returns-in-0
unfolding pairs_of scan_order
returns-in-0 c = rw c.in-0.is refl

pub returns-in-1 : goal.returns-in-1
unfolding pairs_of scan_order
returns-in-1 c = rw c.in-1.is refl

pub returns-in_default : goal.returns-in_default
unfolding pairs_of scan_order
returns-in_default c = let p : c.args.scan ≡ 2 = omega arith in rw p refl

use native.Mathlib.Omega.{arith}
use Rattle.hevc_plain_checks.specs.PlainCode.{scan_zero, scan_large, scan_small}
use Rattle.hevc_plain_checks.proofs.checks.scan_refusal.Goals as goal

-- `scan_refusal` meets its contract. Assumes nothing.
pub returns-then-p-eq0 : goal.returns-then-p-eq0
returns-then-p-eq0 c = scan_zero c.args.p c.if-p-eq0.true

pub returns-then-p-gt3 : goal.returns-then-p-gt3
returns-then-p-gt3 c = scan_large c.args.p c.if-p-eq0.false (omega (arith, c.if-p-gt3.true))

pub returns : goal.returns
returns c = scan_small c.args.p c.if-p-eq0.false (omega (arith, c.if-p-gt3.false))

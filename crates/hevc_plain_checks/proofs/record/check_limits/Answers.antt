use native.Mathlib.Omega.{arith}
use mathlib.Core.Path.{ap, ◌∙◌}
use Rattle.cabac.specs.Numbers.{checked}
use Rattle.cabac.specs.NumberLaws.{checked_none, checked_some}
use Rattle.hevc_plain_checks.specs.Record.{limits_least, limits_most, limits_scan, limits_fine}
use Rattle.hevc_plain_checks.proofs.record.check_limits.Goals as goal

-- `check_limits` meets its contract. Assumes nothing.
pub returns-then-log2-lt2 : goal.returns-then-log2-lt2
returns-then-log2-lt2 c = let a = c.args in checked_some 4 (λ z. omega arith) ∙ ap checked (limits_least a.log2 a.scan (omega (arith, c.if-log2-lt2.true)))

pub returns-then-log2-gt5 : goal.returns-then-log2-gt5
returns-then-log2-gt5 c =
    let a = c.args in
    checked_some 4 (λ z. omega arith) ∙ ap checked (limits_most a.log2 a.scan (omega (arith, c.if-log2-lt2.false)) (omega (arith, c.if-log2-gt5.true)))

pub returns-then-scan-gt2 : goal.returns-then-scan-gt2
returns-then-scan-gt2 c =
    let a = c.args in
    checked_some 4 (λ z. omega arith)
    ∙ ap checked (limits_scan a.log2 a.scan (omega (arith, c.if-log2-lt2.false)) (omega (arith, c.if-log2-gt5.false)) (omega (arith, c.if-scan-gt2.true)))

pub returns : goal.returns
returns c =
    let a = c.args in
    checked_none 0 (omega arith)
    ∙ ap checked (limits_fine a.log2 a.scan (omega (arith, c.if-log2-lt2.false)) (omega (arith, c.if-log2-gt5.false)) (omega (arith, c.if-scan-gt2.false)))

use Rattle.cabac.specs.NumberLaws.{checked_none, checked_some}
use Rattle.cabac_checks.proofs.checks.passed.Goals as goal

pub returns-then-number-eq0 : goal.returns-then-number-eq0
returns-then-number-eq0 c = checked_none c.args.number c.if-number-eq0.true

pub returns-else-number-eq0 : goal.returns-else-number-eq0
returns-else-number-eq0 c = checked_some c.args.number c.if-number-eq0.false

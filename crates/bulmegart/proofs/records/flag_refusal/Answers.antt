use native.Mathlib.Omega.{arith}
use Rattle.bulmegart.specs.RecordLaws.{flag_over, flag_fine}
use Rattle.bulmegart.proofs.records.flag_refusal.Goals as goal

-- `flag_refusal` meets its contract. Assumes nothing.
pub returns-then-flag-gt1 : goal.returns-then-flag-gt1
returns-then-flag-gt1 c = flag_over c.args.flag c.if-flag-gt1.true

pub returns-else-flag-gt1 : goal.returns-else-flag-gt1
returns-else-flag-gt1 c = flag_fine c.args.flag (omega (arith, c.if-flag-gt1.false))

use native.Mathlib.Omega.{arith}
use Rattle.spoiled.specs.CodeLaws.{upper_is, upper_none}
use Rattle.spoiled.proofs.fate.is_upper.Goals as goal

-- `is_upper` meets its contract. Assumes nothing.
pub returns-in-65-to-70 : goal.returns-in-65-to-70
returns-in-65-to-70 c = upper_is c.args.b (omega arith) (omega arith)

pub returns-in_default : goal.returns-in_default
returns-in_default c = upper_none c.args.b (λ h k. omega arith)

pub returns-in_default-2 : goal.returns-in_default-2
returns-in_default-2 c = upper_none c.args.b (λ h k. omega arith)

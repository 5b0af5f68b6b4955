use native.Mathlib.Omega.{arith}
use Rattle.hevc_rules.specs.GreaterLaws.{carry_zero, carry_up, carry_none, carry_most}
use Rattle.hevc_level_rules.proofs.greater.carry_next.Goals as goal

-- `carry_next` meets its contract. Assumes nothing.
pub returns-then-b-eq1 : goal.returns-then-b-eq1
returns-then-b-eq1 c = let a = c.args in (carry_zero a.b a.c c.if-b-eq1.true, omega arith)

pub returns-in-1-to-2 : goal.returns-in-1-to-2
returns-in-1-to-2 c = let a = c.args in (carry_up a.b a.c c.if-b-eq1.false (omega arith) (omega arith), omega arith)

pub returns-in_default : goal.returns-in_default
returns-in_default c = let a = c.args in (carry_none a.b a.c c.if-b-eq1.false (omega arith), omega arith)

pub returns-in_default-2 : goal.returns-in_default-2
returns-in_default-2 c = let a = c.args in (carry_most a.b a.c c.if-b-eq1.false (omega arith), omega arith)

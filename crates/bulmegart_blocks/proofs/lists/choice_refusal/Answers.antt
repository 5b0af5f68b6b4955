use native.Mathlib.Omega.{arith}
use Rattle.bulmegart_blocks.specs.Lists.{choice_over, choice_fine}
use Rattle.bulmegart_blocks.proofs.lists.choice_refusal.Goals as goal

-- `choice_refusal` meets its contract. Assumes nothing.
pub returns-then-b-gt2 : goal.returns-then-b-gt2
returns-then-b-gt2 c = choice_over c.args.b c.if-b-gt2.true

pub returns-else-b-gt2 : goal.returns-else-b-gt2
returns-else-b-gt2 c = choice_fine c.args.b (omega (arith, c.if-b-gt2.false))

use Rattle.bulmegart_blocks.specs.Lists.{choice_none, choice_one, choice_two}
use Rattle.bulmegart_blocks.proofs.lists.choice_of.Goals as goal

-- `choice_of` meets its contract. Assumes nothing.
pub returns-then-b-eq0 : goal.returns-then-b-eq0
returns-then-b-eq0 c = choice_none c.args.b c.if-b-eq0.true

pub returns-then-b-eq1 : goal.returns-then-b-eq1
returns-then-b-eq1 c = choice_one c.args.b c.if-b-eq1.true

pub returns : goal.returns
returns c = choice_two c.args.b c.if-b-eq0.false c.if-b-eq1.false

use mathlib.Core.Path.{refl, sym}
use Rattle.cabac.specs.NumberLaws.{or_else_first, or_else_rest}
use Rattle.bulmegart.proofs.records.or_else.Goals as goal

-- `or_else` meets its contract. Assumes nothing.
pub returns-then-a-eq0 : goal.returns-then-a-eq0
returns-then-a-eq0 c = or_else_rest c.args.b c.args.a c.args.b (sym c.if-a-eq0.true) refl

pub returns-else-a-eq0 : goal.returns-else-a-eq0
returns-else-a-eq0 c = or_else_first c.args.a c.args.a c.args.b refl c.if-a-eq0.false

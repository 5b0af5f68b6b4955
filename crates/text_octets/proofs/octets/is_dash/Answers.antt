use Rattle.text_fields.specs.OctetsLaws.{dash_not, dash_first}
use Rattle.text_octets.proofs.octets.is_dash.Goals as goal

-- `is_dash` meets its contract. Assumes nothing.
pub returns-then-s-ne1 : goal.returns-then-s-ne1
returns-then-s-ne1 c = dash_not c.args.s.now c.if-s-ne1.true

pub returns : goal.returns
returns c = dash_first c.args.s.now c.if-s-ne1.false

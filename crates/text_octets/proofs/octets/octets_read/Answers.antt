use Rattle.text_fields.specs.OctetsLaws.{read_dash, read_whole, read_less}
use Rattle.text_octets.proofs.octets.octets_read.Goals as goal

pub returns-then-is_dash : goal.returns-then-is_dash
returns-then-is_dash c = read_dash _ _ _ c.is_dash.ensures c.if-is_dash.true

pub returns-then-s-n : goal.returns-then-s-n
returns-then-s-n c = read_whole _ _ _ c.is_dash.ensures c.if-is_dash.false c.if-s-n.true

pub returns : goal.returns
returns c = read_less _ _ _ c.is_dash.ensures c.if-is_dash.false c.if-s-n.false

use Rattle.text_fields.specs.FieldLaws.{part_is}
use Rattle.text.proofs.lines.part.Goals as goal

pub returns : goal.returns
returns c =
    let a = c.args in
    part_is a.buf.now a.from a.to _ _ c.min-end.ensures c.min-start.ensures

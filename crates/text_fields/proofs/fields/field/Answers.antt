use Rattle.text_fields.specs.FieldLaws.{field_part}
use Rattle.text_fields.proofs.fields.field.Goals as goal

pub returns : goal.returns
returns c = field_part _ _ _ _ c.field_start-from.ensures.1 c.find-to.ensures.place

use native.Mathlib.Omega.{arith}
use Rattle.book_lines.specs.CodeLaws.{length_field_lem}
use Rattle.book_lines.proofs.form.length_field.Goals as goal

pub returns : goal.returns
returns c = (length_field_lem _ _ _ _ _ c.worth_of-a.ensures.0 c.worth_of-b.ensures.0 c.worth_of-c.ensures.0 c.worth_of-d.ensures.0, omega arith)

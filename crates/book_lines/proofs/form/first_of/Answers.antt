use Rattle.book_lines.specs.CodeLaws.{first_is_lem, first_none}
use Rattle.book_lines.proofs.form.first_of.Goals as goal

-- `first_of` meets its contract. Assumes nothing.
pub returns-then-a-ne0 : goal.returns-then-a-ne0
returns-then-a-ne0 c = let a = c.args in first_is_lem a.a a.b c.if-a-ne0.true

pub returns : goal.returns
returns c = let a = c.args in first_none a.a a.b c.if-a-ne0.false

use native.Mathlib.Omega.{arith}
use Rattle.book_lines.specs.CodeLaws.{long_more, long_none}
use Rattle.book_lines.proofs.form.long_refusal.Goals as goal

-- `long_refusal` meets its contract. Assumes nothing.
pub returns-then-line-gt-MOST_DIGITS : goal.returns-then-line-gt-MOST_DIGITS
returns-then-line-gt-MOST_DIGITS c = let a = c.args in long_more a.line.now a.finished (omega arith)

pub returns : goal.returns
returns c = let a = c.args in long_none a.line.now a.finished (omega arith)

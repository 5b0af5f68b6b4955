use native.Mathlib.Omega.{arith}
use mathlib.Core.Path.{◌∙◌}
use Rattle.book_lines.specs.CodeLaws.{worth_decimal, worth_letter}
use Rattle.book_lines.proofs.form.worth_of.Goals as goal

pub returns-then-b-le57 : goal.returns-then-b-le57
returns-then-b-le57 c = (c.less.ensures ∙ worth_decimal c.args.b (omega arith), omega arith)

pub returns : goal.returns
returns c = (c.less-2.ensures ∙ worth_letter c.args.b (omega arith), omega arith)

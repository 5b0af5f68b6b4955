use native.Mathlib.Omega.{arith}
use mathlib.Core.Path.{refl, ◌∙◌}
use Rattle.book_lines.specs.CodeLaws.{all_none, all_more, all_end}
use Rattle.book_lines.proofs.form.all_digits.Goals as goal

pub loop-b-init : goal.loop-b-init
loop-b-init c = refl

pub returns-then-not-is_digit : goal.returns-then-not-is_digit
returns-then-not-is_digit c = all_none _ c.loop-b.b-index _ (omega arith) c.is_digit.ensures c.if-not-is_digit.true ∙ c.loop-b.invariant

pub loop-b-preserved : goal.loop-b-preserved
loop-b-preserved c = all_more _ c.loop-b.b-index _ (omega arith) c.is_digit.ensures c.if-not-is_digit.false ∙ c.loop-b.invariant

pub returns : goal.returns
returns c = all_end _ c.loop-b.b-index (omega arith) ∙ c.loop-b.invariant

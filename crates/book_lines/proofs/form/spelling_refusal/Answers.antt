use Rattle.book_lines.specs.CodeLaws.{spelling_digits, spelling_odd, spelling_open, spelling_right}
use Rattle.book_lines.proofs.form.spelling_refusal.Goals as goal

pub returns-then-not-all_digits : goal.returns-then-not-all_digits
returns-then-not-all_digits c =
    let a = c.args in
    spelling_digits a.line.now a.finished _ c.all_digits.ensures c.if-not-all_digits.true

pub returns-then-line-ne0 : goal.returns-then-line-ne0
returns-then-line-ne0 c =
    let a = c.args in
    spelling_odd a.line.now a.finished _ c.all_digits.ensures c.if-not-all_digits.false c.if-line-ne0.true

pub returns-then-not-finished : goal.returns-then-not-finished
returns-then-not-finished c =
    let a = c.args in
    spelling_open a.line.now a.finished _ c.all_digits.ensures c.if-not-all_digits.false c.if-line-ne0.false c.if-not-finished.true

pub returns : goal.returns
returns c =
    let a = c.args in
    spelling_right a.line.now a.finished _ c.all_digits.ensures c.if-not-all_digits.false c.if-line-ne0.false c.if-not-finished.false

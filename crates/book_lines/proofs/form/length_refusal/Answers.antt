use native.Mathlib.Omega.{arith}
use Rattle.book_lines.specs.CodeLaws.{length_short, length_differs, length_agrees}
use Rattle.book_lines.proofs.form.length_refusal.Goals as goal

-- `length_refusal` meets its contract. Assumes nothing.
pub returns-then-line-lt-FRONT_DIGITS : goal.returns-then-line-lt-FRONT_DIGITS
returns-then-line-lt-FRONT_DIGITS c = let a = c.args in length_short a.line.now a.finished (omega arith)

pub returns-then-line-length_field : goal.returns-then-line-length_field
returns-then-line-length_field c =
    let a = c.args in
    length_differs a.line.now a.finished _ (omega arith) c.length_field.ensures.0 (λ z. omega arith)

pub returns : goal.returns
returns c =
    let a = c.args in
    length_agrees a.line.now a.finished _ (omega arith) c.length_field.ensures.0 (omega arith)

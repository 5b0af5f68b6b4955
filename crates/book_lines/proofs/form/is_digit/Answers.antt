use native.Mathlib.Omega.{arith}
use Rattle.book_lines.specs.CodeLaws.{digit_decimal, digit_letter, digit_none}
use Rattle.book_lines.proofs.form.is_digit.Goals as goal

-- `is_digit` meets its contract. Assumes nothing.
pub returns-in-48-to-57 : goal.returns-in-48-to-57
returns-in-48-to-57 c = digit_decimal c.args.b (omega arith) (omega arith)

pub returns-in-97-to-102 : goal.returns-in-97-to-102
returns-in-97-to-102 c = let a = c.args in digit_letter a.b (omega arith) (omega arith)

pub returns-in_default : goal.returns-in_default
returns-in_default c = digit_none c.args.b (λ h k. omega arith) (λ h k. omega arith)

pub returns-in_default-2 : goal.returns-in_default-2
returns-in_default-2 c = let a = c.args in digit_none a.b (λ h k. omega arith) (λ h k. omega arith)

pub returns-in_default-3 : goal.returns-in_default-3
returns-in_default-3 c = let a = c.args in digit_none a.b (λ h k. omega arith) (λ h k. omega arith)

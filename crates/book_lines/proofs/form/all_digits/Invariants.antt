use mathlib.Core.Path.{◌≡◌}
use lib.ListN.{drop}
use Rattle.book_lines.specs.Form.{all_digits}
use Rattle.book_lines.proofs.form.all_digits.Given as goal

-- `all_digits` meets its contract. Assumes nothing.
abbrev pub invariant-loop-b : goal.invariant-loop-b
invariant-loop-b l = all_digits (drop l.b-index l.line) ≡ all_digits l.line

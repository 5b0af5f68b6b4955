use native.Mathlib.Omega.{arith}
use Rattle.book_answers.specs.CodeLaws.{more_stopped, more_one}
use Rattle.book_answers.proofs.tally.one_more.Goals as goal

-- `one_more` meets its contract. Assumes nothing.
pub returns-then-n-ge18446744073709551615 : goal.returns-then-n-ge18446744073709551615
returns-then-n-ge18446744073709551615 c = more_stopped c.args.n (omega arith)

pub returns : goal.returns
returns c = more_one c.args.n (omega arith)

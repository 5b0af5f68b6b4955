use native.Mathlib.Omega.{arith}
use Rattle.book_answers.specs.CodeLaws.{count_none, count_one}
use Rattle.book_answers.proofs.tally.count.Goals as goal

-- `count` meets its contract. Assumes nothing.
pub returns-then-tally-i : goal.returns-then-tally-i
returns-then-tally-i c = let a = c.args in count_none a.tally.now a.number (omega arith)

pub returns : goal.returns
returns c = let a = c.args in count_one a.tally.now a.number _ c.one_more.ensures

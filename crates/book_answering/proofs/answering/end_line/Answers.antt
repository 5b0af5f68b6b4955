use native.Mathlib.Omega.{arith}
use lib.ListN.{take, length-take}
use Rattle.book_answers.specs.CodeLaws.{line_gave}
use Rattle.book_answering.proofs.answering.end_line.Goals as goal

-- `end_line` meets its contract. Assumes nothing.
pub slice_bounds-judge_line-end : goal.slice_bounds-judge_line-end
slice_bounds-judge_line-end c = simp length-take (omega arith)

pub returns : goal.returns
returns c =
    let at-start = c in
    let a = at-start.args in
    let l = take a.s.line.held a.line.now in (
      line_gave a.s.line.number _ l (take a.s.out a.out.now) _ a.tally.now _ a.finished _
          c.judge_line-v.ensures c.number_of.ensures c.put_answer-n.ensures.0 c.count.ensures,
      omega arith,
      omega arith,
      omega arith,
    )

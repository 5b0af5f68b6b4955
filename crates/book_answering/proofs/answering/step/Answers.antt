use native.Mathlib.Omega.{arith}
use lib.ListN.{take}
use Rattle.book_lines.specs.CodeLaws.{more_state, more_out, ended_state, end_out_lem}
use Rattle.book_answers.specs.Gave.{gave_none, gave_as}
use Rattle.book_answering.proofs.answering.step.Goals as goal

pub returns-then-b-ne10 : goal.returns-then-b-ne10
returns-then-b-ne10 c =
    let a = c.args in
    let l = take a.s.line.held a.line.now in
    let h = c.if-b-ne10.true in (
      more_state a.s.line.number a.b l h _ c.push-held.ensures.0,
      gave_as (more_out a.s.line.number a.b l h) (gave_none _ _),
      omega arith,
      omega arith,
      omega arith,
      omega arith,
    )

pub returns : goal.returns
returns c =
    let at-start = c in
    let a = at-start.args in
    let l = take a.s.line.held a.line.now in
    let h = c.if-b-ne10.false in
    let e = c.end_line.ensures in (
      ended_state a.s.line.number a.b l h _ _ _ e.1 e.2,
      gave_as (end_out_lem a.s.line.number a.b l h) e.0,
      omega arith,
      omega arith,
      omega arith,
      omega arith,
    )

use native.Mathlib.Omega.{arith}
use lib.ListN.{take}
use Rattle.book_lines.specs.CodeLaws.{more_state, more_out, ended_state, end_out_lem}
use Rattle.morning_add.specs.Sums.{event_line}
use Rattle.morning_add.specs.CodeLaws.{none_added, added_as}
use Rattle.morning_sums.proofs.feeding.step.Goals as goal

pub returns-then-b-ne10 : goal.returns-then-b-ne10
returns-then-b-ne10 c =
    let a = c.args in
    let l = take a.s.line.held a.line.now in
    let h = c.if-b-ne10.true in (
      more_state a.s.line.number a.b l h _ c.push-held.ensures.0,
      none_added _ _ (more_out a.s.line.number a.b l h event_line),
      omega arith,
      omega arith,
      omega arith,
    )

pub returns : goal.returns
returns c =
    let a = c.before.args in
    let l = take a.s.line.held a.line.now in
    let h = c.if-b-ne10.false in
    let e = c.end_line.ensures in (
      ended_state a.s.line.number a.b l h _ _ _ e.1 e.2,
      added_as _ _ _ _ e.0 (end_out_lem a.s.line.number a.b l h event_line),
      omega (arith, e.2),
      omega (arith, e.1),
      omega (arith, e.1),
    )

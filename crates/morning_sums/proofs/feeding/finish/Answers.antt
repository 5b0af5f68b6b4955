use native.Mathlib.Omega.{arith}
use Rattle.book_lines.specs.CodeLaws.{end_none, end_open}
use Rattle.morning_add.specs.Sums.{event_line}
use Rattle.morning_add.specs.CodeLaws.{none_added, added_as}
use Rattle.morning_sums.proofs.feeding.finish.Goals as goal

-- `finish` meets its contract. Assumes nothing.
pub returns-then-held-eq0 : goal.returns-then-held-eq0
returns-then-held-eq0 c =
    let a = c.args in
    (none_added _ _ (end_none event_line a.s.line.number a.s.line.held a.line.now c.if-held-eq0.true), omega arith)

pub returns : goal.returns
returns c =
    let a = c.args in
    let e = c.end_line.ensures in (
      added_as _ _ _ _ e.0 (end_open event_line a.s.line.number a.s.line.held a.line.now c.if-held-eq0.false c.requires.0),
      omega (arith, e.1),
    )

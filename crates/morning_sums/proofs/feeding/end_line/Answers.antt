use native.Mathlib.Omega.{arith}
use lib.ListN.{take, length-take}
use Rattle.book_lines.specs.Lines.{line_of}
use Rattle.morning_add.specs.CodeLaws.{line_added}
use Rattle.morning_sums.proofs.feeding.end_line.Goals as goal

-- `end_line` meets its contract. Assumes nothing.
pub slice_bounds-read_line-end : goal.slice_bounds-read_line-end
slice_bounds-read_line-end c = simp length-take (omega arith)

pub overflow_add-next : goal.overflow_add-next
overflow_add-next c =
    let at-start = c in
    omega (arith, at-start.requires.1)

pub returns : goal.returns
returns c =
    let a = c.args in
    (line_added _ _ a.s.line.number (line_of (take a.s.line.held a.line.now) a.finished) _ c.read_line-e.ensures c.add_event-sizes.ensures, omega arith, omega arith)

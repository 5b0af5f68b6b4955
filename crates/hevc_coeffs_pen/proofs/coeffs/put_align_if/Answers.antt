use mathlib.Core.Path.{sym, subst}
use Rattle.pen.specs.Sheet.{sheet}
use Rattle.hevc_coeffs_pen.specs.CoeffsPuts.{Aligned, aligned_due, aligned_not}
use Rattle.hevc_coeffs_pen.proofs.coeffs.put_align_if.Goals as goal

pub returns-then-due : goal.returns-then-due
returns-then-due c =
    let a = c.args in subst (Aligned a.due (sheet a.room.now a.pen))
    (sym c.put_align.ensures) (aligned_due a.due (sheet a.room.now a.pen) c.if-due.true)

pub returns : goal.returns
returns c = let a = c.args in aligned_not a.due (sheet a.room.now a.pen) c.if-due.false

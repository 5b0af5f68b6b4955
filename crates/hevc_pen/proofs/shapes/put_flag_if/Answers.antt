use mathlib.Core.Path.{sym, subst}
use mathlib.Core.Bool.{◌&&◌}
use Rattle.bins.specs.Syn.{done}
use Rattle.bins.specs.Readers.{flag_if}
use Rattle.pen.specs.Sheet.{sheet, Wrote}
use Rattle.pen_shapes.specs.ShapeLaws.{flag_put, flag_left_lem}
use Rattle.hevc_pen.proofs.shapes.put_flag_if.Goals as goal

pub returns-then-coded : goal.returns-then-coded
returns-then-coded c =
    λ want w q.
    let a = c.args in
    subst (Wrote (flag_if a.coded a.number want) (done (a.coded && a.flag)) w (sheet a.room.now a.pen)) (sym c.put_bin.ensures)
    (flag_put a.coded a.number (sheet a.room.now a.pen) a.flag want w q c.if-coded.true)

pub returns : goal.returns
returns c = λ want w q. let a = c.args in flag_left_lem a.coded a.number (sheet a.room.now a.pen) a.flag want w q c.if-coded.false

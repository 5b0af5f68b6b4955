use Rattle.pen.specs.Sheet.{sheet}
use Rattle.pen_shapes.specs.PlainLaws.{ones_any}
use Rattle.hevc_pen.proofs.shapes.put_ones.Goals as goal

pub returns : goal.returns
returns c =
    let a = c.args in
    ones_any (sheet a.room.now a.pen) (sheet c.put_ones.new.room c.put_ones.result) a.n a.most c.put_ones.ensures

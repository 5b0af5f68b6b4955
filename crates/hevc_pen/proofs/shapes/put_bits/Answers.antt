use Rattle.pen.specs.Sheet.{sheet}
use Rattle.pen_shapes.specs.PlainLaws.{bits_any}
use Rattle.hevc_pen.proofs.shapes.put_bits.Goals as goal

pub returns : goal.returns
returns c =
    let a = c.args in
    bits_any (sheet a.room.now a.pen) (sheet c.put_bits.new.room c.put_bits.result) a.n a.v c.put_bits.ensures

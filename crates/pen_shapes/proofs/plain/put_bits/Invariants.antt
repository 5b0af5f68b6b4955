use Rattle.pen.specs.Sheet.{sheet}
use Rattle.pen_shapes.specs.ShapeLaws.{Bits}
use Rattle.pen_shapes.proofs.plain.put_bits.Given as goal

-- `put_bits` meets its contract. Assumes nothing.
abbrev pub invariant-loop-k : goal.invariant-loop-k
invariant-loop-k l = Bits l.n l.v (sheet l.initial.room l.initial.y) l.k (sheet l.room l.y)

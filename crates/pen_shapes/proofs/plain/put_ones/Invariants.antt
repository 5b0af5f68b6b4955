use Prim.Native.Nat.{ℕ}
use Rattle.trees.specs.Counters.{ones_counter}
use Rattle.pen.specs.Sheet.{sheet}
use Rattle.pen_shapes.specs.ShapeLaws.{ones_putter, Ones}
use Rattle.pen_shapes.proofs.plain.put_ones.Given as goal

-- `put_ones` meets its contract. Assumes nothing.
abbrev pub invariant-loop-g : goal.invariant-loop-g
invariant-loop-g l = Ones (ones_counter {B = ℕ}) ones_putter l.n l.most (sheet l.initial.room l.initial.y) l._g (sheet l.room l.y)

use Rattle.hevc_residual.specs.Wanted.{Wanted}
use Rattle.trees.specs.Counters.{prefix_counter}
use Rattle.pen.specs.Sheet.{sheet}
use Rattle.pen_shapes.specs.ShapeLaws.{prefix_putter, Ones}
use Rattle.hevc_pen.proofs.shapes.put_prefix.Given as goal

-- `put_prefix` meets its contract. Assumes nothing.
abbrev pub invariant-loop-g : goal.invariant-loop-g
invariant-loop-g l = Ones (prefix_counter {B = Wanted} l.base l.shift) (prefix_putter l.base l.shift) l.n l.most (sheet l.initial.room l.initial.y) l.g (sheet l.room l.y)

use mathlib.Core.Path.{◌≡◌}
use Prim.Native.Nat.{ℕ}
use Rattle.trees.specs.Shapes.{first_then}
use Rattle.trees.specs.Counters.{count_counter}
use Rattle.pen.specs.Sheet.{sheet}
use Rattle.pen_shapes.specs.ShapeLaws.{count_putter, Ones}
use Rattle.pen_shapes.proofs.plain.put_count.Given as goal

-- `put_count` meets its contract. Assumes nothing.
abbrev pub invariant-loop-g : goal.invariant-loop-g
invariant-loop-g l = Ones (count_counter {B = ℕ} (first_then l.first l.later)) (count_putter (first_then l.first l.later)) l.n l.most (sheet l.initial.room l.initial.y) l._g (sheet l.room l.y) ×
    (l.number ≡ first_then l.first l.later l._g)

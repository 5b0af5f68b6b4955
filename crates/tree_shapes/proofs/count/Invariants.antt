use Rattle.tree_shapes.specs.ShapeLaws.{count_counter, Counting}
use Rattle.trees.specs.Shapes.{first_then}
use mathlib.Core.Path.{◌≡◌}
use Rattle.tree_shapes.proofs.count.Given as goal

abbrev pub invariant-loop-g : goal.invariant-loop-g
invariant-loop-g l = Counting (count_counter (first_then l.first l.later)) l.list l.bytes l.most l.initial.y l.initial.contexts l.y l.contexts l.g × (l.number ≡ first_then l.first l.later l.g)

use mathlib.Core.List.{List}
use Prim.Native.Nat.{ℕ}
use Rattle.tree_shapes.specs.ShapeLaws.{ones_counter, Counting}
use Rattle.tree_shapes.proofs.ones.Given as goal

abbrev pub invariant-loop-g : goal.invariant-loop-g
invariant-loop-g l = (contexts : List ℕ) → Counting ones_counter l.list l.bytes l.most l.initial.y contexts l.y contexts l.g

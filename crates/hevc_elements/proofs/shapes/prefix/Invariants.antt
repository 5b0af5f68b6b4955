use Rattle.tree_shapes.specs.ShapeLaws.{prefix_counter, Counting}
use Rattle.hevc_elements.proofs.shapes.prefix.Given as goal

-- `prefix` meets its contract. Assumes nothing.
abbrev pub invariant-loop-g : goal.invariant-loop-g
invariant-loop-g l = Counting (prefix_counter l.base l.shift) l.list l.bytes l.most l.initial.y l.initial.contexts l.y l.contexts l.g

use native.Mathlib.Omega.{arith}
use Rattle.tree_shapes.specs.ShapeLaws.{bin_says}
use Rattle.tree_shapes.proofs.context_bin.Goals as goal

pub decode_bin-requires : goal.decode_bin-requires
decode_bin-requires c = let h = c.requires in (h.0.0, h.0.1 _, omega arith, h.3)

pub returns : goal.returns
returns c = let a = c.args in bin_says a.list a.bytes.now a.number a.x a.contexts.now _ _ c.decode_bin.ensures.0 c.decode_bin.ensures.1

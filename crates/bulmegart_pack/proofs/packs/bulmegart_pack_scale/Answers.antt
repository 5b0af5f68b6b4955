use mathlib.Core.Path.{◌∙◌}
use Rattle.bulmegart_pack.specs.Packed.{packed_same, seen}
use Rattle.bulmegart_pack.proofs.packs.bulmegart_pack_scale.Goals as goal

pub returns : goal.returns
returns c = seen c.into.result c.pack_scale.result _ _ (c.into.ensures ∙ packed_same c.pack_scale.result) c.pack_scale.ensures.0

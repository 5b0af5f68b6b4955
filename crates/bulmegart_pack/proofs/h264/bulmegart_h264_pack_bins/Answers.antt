use mathlib.Core.Path.{◌∙◌}
use Rattle.bulmegart_pack.specs.Packed.{packed_same, seen}
use Rattle.bulmegart_pack.proofs.h264.bulmegart_h264_pack_bins.Goals as goal

pub returns : goal.returns
returns c = seen c.into.result c.pack_bins.result _ _ (c.into.ensures ∙ packed_same c.pack_bins.result) c.pack_bins.ensures.0

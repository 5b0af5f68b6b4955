use Rattle.bulmegart_scales.specs.Scales.{scale_written_lem}
use mir.Facts.{to_z-of_z}
use Rattle.bulmegart_scale_lists.proofs.scales.bulmegart_write_scale_bins.Goals as goal

pub returns : goal.returns
returns c = let a = c.args in scale_written_lem a.component a.scale _ a.room.now c.write_scale_bins.result _ c.into.result (to_z-of_z c.ranges.scale) c.write_scale_bins.ensures.0 c.into.ensures

use Rattle.bulmegart_h264.specs.Exported.{list_read}
use Rattle.bulmegart_h264.proofs.bulmegart_h264_read_bins.Goals as goal

pub returns : goal.returns
returns c = let a = c.args in list_read a.list.now a.levels.now c.read_bins.result _ c.into.result c.read_bins.ensures c.into.ensures

use mathlib.Core.Path.{refl, ◌∙◌}
use Rattle.bulmegart_blocks.specs.Lists.{written_like}
use Rattle.h264_writer.specs.EntriesPuts.{written_says}
use Rattle.bulmegart_h264.specs.Exported.{list_written_lem}
use Rattle.bulmegart_h264.proofs.bulmegart_h264_write_bins.Goals as goal

pub returns : goal.returns
returns c = let a = c.args in list_written_lem a.levels.now a.room.now c.write_bins.result _ c.from.result c.write_bins.ensures.0 (c.from.ensures ∙ written_like written_says (λ n. refl) (λ n. refl) c.write_bins.result)

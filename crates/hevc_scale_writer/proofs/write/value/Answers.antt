use mathlib.Core.Path.{ap, ◌∙◌}
use lib.IntN.{nat_abs}
use mir.Facts.{to_z-of_z}
use Rattle.hevc_scale_writer.specs.WriteAgree.{value_of}
use Rattle.hevc_scale_writer.proofs.write.value.Goals as goal

pub returns : goal.returns
returns c = c.value_of.ensures ∙ ap value_of (c.magnitude.ensures ∙ ap nat_abs (to_z-of_z c.ranges.scale))

use mathlib.Core.Path.{ap, ◌∙◌}
use Rattle.bulmegart_scales.specs.Scales.{scale_list_given}
use Rattle.bulmegart_scale_lists.proofs.scales.bulmegart_read_scale_bins.Goals as goal

pub returns : goal.returns
returns c = c.into.ensures ∙ ap scale_list_given c.read_scale_bins.ensures

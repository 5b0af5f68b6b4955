use Rattle.hevc_residual.specs.Wanted.{negative}
use mir.Facts.{to_z-of_z}
use lib.IntN.{nat_abs}
use mathlib.Core.Path.{ap, ◌∙◌}
use Rattle.hevc_summary.specs.CodeLaws.{level_in, level_out}
use Rattle.hevc_kept.proofs.kept.level_refusal.Goals as goal

pub returns-then-in_range : goal.returns-then-in_range
returns-then-in_range c = let f = to_z-of_z c.ranges.v in level_in c.args.f c.args.v c.in_range.result c.is_negative.result c.magnitude.result c.in_range.ensures (c.is_negative.ensures ∙ ap negative f) (c.magnitude.ensures ∙ ap nat_abs f) c.if-in_range.true

pub returns-else-in_range : goal.returns-else-in_range
returns-else-in_range c = let f = to_z-of_z c.ranges.v in level_out c.args.f c.args.v c.in_range.result c.is_negative.result c.magnitude.result c.in_range.ensures (c.is_negative.ensures ∙ ap negative f) (c.magnitude.ensures ∙ ap nat_abs f) c.if-in_range.false

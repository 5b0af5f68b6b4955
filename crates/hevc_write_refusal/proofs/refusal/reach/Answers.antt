use mathlib.Core.Path.{ap, sym, ◌∙◌}
use lib.IntN.{nat_abs}
use mir.Facts.{to_z-of_z}
use Rattle.hevc_residual.specs.Wanted.{negative}
use Rattle.hevc_write_refusal.specs.RefusalLaws.{reach_low, reach_high}
use Rattle.hevc_write_refusal.proofs.refusal.reach.Goals as goal

pub overflow_sub-result : goal.overflow_sub-result
overflow_sub-result c =
    let f = to_z-of_z c.ranges.v in
    (reach_low c.args.v c.magnitude-m.result (c.magnitude-m.ensures ∙ ap nat_abs f) (sym (c.is_negative.ensures ∙ ap negative f) ∙ c.if-is_negative.true)).0

pub returns-then-is_negative : goal.returns-then-is_negative
returns-then-is_negative c =
    let f = to_z-of_z c.ranges.v in
    (reach_low c.args.v c.magnitude-m.result (c.magnitude-m.ensures ∙ ap nat_abs f) (sym (c.is_negative.ensures ∙ ap negative f) ∙ c.if-is_negative.true)).1

pub returns-else-is_negative : goal.returns-else-is_negative
returns-else-is_negative c =
    let f = to_z-of_z c.ranges.v in
    reach_high c.args.v c.magnitude-m.result (c.magnitude-m.ensures ∙ ap nat_abs f) (sym (c.is_negative.ensures ∙ ap negative f) ∙ c.if-is_negative.false)

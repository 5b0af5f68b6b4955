use mathlib.Core.Path.{ap, ap₂, ◌∙◌}
use mathlib.Core.Bool.{Bool, not}
use Prim.Native.Nat.{ℕ}
use lib.IntN.{nat_abs}
use mir.Facts.{to_z-of_z}
use Rattle.hevc_residual.specs.Wanted.{negative}
use Rattle.hevc_residual.specs.Remainder.{in_range}
use Rattle.hevc_write_refusal.proofs.refusal.is_far.Goals as goal

pub returns : goal.returns
returns c =
    let f = to_z-of_z c.ranges.v in
    ap not c.in_range.ensures
    ∙ ap₂ (λ (s : Bool) (m : ℕ). not (in_range c.args.t s m)) (c.is_negative.ensures ∙ ap negative f)
    (c.magnitude.ensures ∙ ap nat_abs f)

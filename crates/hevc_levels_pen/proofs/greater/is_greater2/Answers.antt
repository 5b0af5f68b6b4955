use native.Mathlib.Omega.{arith}
use mathlib.Core.Path.{refl, ap, ◌∙◌}
use lib.IntN.{pos, nat_abs}
use lib.ListN.{get_or}
use mir.Syntax.{w32}
use mir.Val.{SFits}
use mir.Facts.{to_z-of_z}
use Rattle.hevc_levels_pen.specs.GreaterPuts.{greater2_is}
use Rattle.hevc_levels_pen.proofs.greater.is_greater2.Goals as goal

-- `is_greater2` meets its contract. Assumes nothing.
pub returns-then-mask-eq0 : goal.returns-then-mask-eq0
returns-then-mask-eq0 c = (λ q. refl, λ lv w g h. absurd (omega arith))

pub returns : goal.returns
returns c =
    let l = c.args.levels.now in
    let f : SFits w32 (get_or l c.first_greater1-k.result (pos 0)) = record { sfits = c.magnitude-arg-1.given } in (
      λ q. absurd (c.if-mask-eq0.false q),
      λ lv w g h. greater2_is l c.first_greater1-k.result _ c.magnitude.result c.first_greater1-k.ensures.0 c.first_greater1-k.ensures.1 (c.magnitude.ensures ∙ ap nat_abs (to_z-of_z f)) lv w g,
    )

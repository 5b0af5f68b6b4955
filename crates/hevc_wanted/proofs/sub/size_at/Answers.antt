use mathlib.Core.Path.{ap, ◌∙◌}
use lib.IntN.{pos, nat_abs}
use lib.ListN.{get_or}
use mir.Syntax.{w32}
use mir.Val.{SFits}
use mir.Facts.{to_z-of_z}
use Rattle.hevc_wanted.proofs.sub.size_at.Goals as goal

pub returns : goal.returns
returns c =
    let a = c.args in
    let f : SFits w32 (get_or a.block.now a.at (pos 0)) = record { sfits = c.magnitude-arg-1.given } in
    c.magnitude.ensures ∙ ap nat_abs (to_z-of_z f)

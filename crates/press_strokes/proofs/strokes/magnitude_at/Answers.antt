use mathlib.Core.Path.{ap, ◌∙◌}
use lib.IntN.{pos}
use lib.ListN.{get_or}
use mir.Syntax.{w32}
use mir.Val.{SFits}
use mir.Facts.{to_z-of_z}
use lib.IntN.{nat_abs}
use Rattle.press_strokes.proofs.strokes.magnitude_at.Goals as goal

pub returns : goal.returns
returns c =
    let a = c.args in
    let f : SFits w32 (get_or a.levels.now a.i (pos 0)) = record { sfits = c.magnitude-arg-1.given } in
    c.magnitude.ensures ∙ ap nat_abs (to_z-of_z f)

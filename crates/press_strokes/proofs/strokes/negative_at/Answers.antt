use mathlib.Core.Path.{ap, ◌∙◌}
use lib.IntN.{pos}
use lib.ListN.{get_or}
use mir.Syntax.{w32}
use mir.Val.{SFits}
use mir.Facts.{to_z-of_z}
use Rattle.trees.specs.Levels.{negative}
use Rattle.press_strokes.proofs.strokes.negative_at.Goals as goal

pub returns : goal.returns
returns c =
    let a = c.args in
    let f : SFits w32 (get_or a.levels.now a.i (pos 0)) = record { sfits = c.is_negative-arg-1.given } in
    c.is_negative.ensures ∙ ap negative (to_z-of_z f)

use mathlib.Core.Path.{ap, ◌∙◌}
use lib.IntN.{pos}
use lib.ListN.{get_or}
use mir.Syntax.{w32}
use mir.Val.{SFits}
use mir.Facts.{to_z-of_z}
use Rattle.press_strokes.specs.Advice.{is_beyond}
use Rattle.press_strokes.proofs.search.far_at.Goals as goal

pub returns : goal.returns
returns c =
    let a = c.args in
    let f : SFits w32 (get_or a.levels.now a.i (pos 0)) = record { sfits = c.is_far-arg-1.given } in
    c.is_far.ensures ∙ ap (is_beyond a.t) (to_z-of_z f)

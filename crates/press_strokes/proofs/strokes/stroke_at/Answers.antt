use mathlib.Core.Path.{ap, ap₂, ◌∙◌}
use mir.Syntax.{w32}
use mir.Val.{SFits}
use mir.Facts.{to_z-of_z}
use Rattle.trees.specs.Levels.{signed}
use Rattle.press_strokes.specs.Advice.{sign_behind, magnitude_behind}
use native.Mathlib.Omega.{arith}
use Rattle.press_strokes.proofs.strokes.stroke_at.Goals as goal

pub magnitude_behind-m-requires : goal.magnitude_behind-m-requires
magnitude_behind-m-requires c = (omega (arith, c.magnitude_at.ensures, c.requires.1), omega (arith, c.magnitude_at.ensures, c.requires.2))

pub signed_of-requires : goal.signed_of-requires
signed_of-requires c = c.magnitude_behind-m.ensures.1

pub returns : goal.returns
returns c =
    let a = c.args in
    let z : SFits w32 c.signed_of.result = record { sfits = c.signed_of.type_inv } in
    to_z-of_z z ∙ c.signed_of.ensures
    ∙ ap₂ signed (c.sign_behind-sign.ensures ∙ ap (sign_behind a.k) c.negative_at.ensures) (c.magnitude_behind-m.ensures.0 ∙ ap (magnitude_behind a.k) c.magnitude_at.ensures)

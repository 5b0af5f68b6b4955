use native.Mathlib.Omega.{arith}
use mathlib.Core.Path.{sym, refl, ◌∙◌}
use mir.Syntax.{w32}
use mir.Val.{SFits}
use mir.Facts.{to_z-of_z}
use Rattle.press_strokes.specs.StrokeLaws.{area_few, taken_least, taken_most}
use Rattle.press_advice.specs.AdviceLaws.{passed, wide, suggested, nothing_taken}
use Rattle.press_advice.proofs.advice.change_of.Goals as goal

pub returns-then-parameter_refusal-ne0 : goal.returns-then-parameter_refusal-ne0
returns-then-parameter_refusal-ne0 c = λ z j l. absurd (c.if-parameter_refusal-ne0.true (c.parameter_refusal.ensures ∙ sym z))

pub first_taken-c-requires : goal.first_taken-c-requires
first_taken-c-requires c = let a = c.args in (passed a.p a.levels.now _ c.parameter_refusal.ensures c.if-parameter_refusal-ne0.false, wide a.p a.levels.now _ c.parameter_refusal.ensures c.if-parameter_refusal-ne0.false)

pub area_of-requires : goal.area_of-requires
area_of-requires c =
    let a = c.args in
    let k = passed a.p a.levels.now _ c.parameter_refusal.ensures c.if-parameter_refusal-ne0.false in (k.least, k.most)

pub overflow_mul-area_of : goal.overflow_mul-area_of
overflow_mul-area_of c =
    let a = c.args in
    let k = passed a.p a.levels.now _ c.parameter_refusal.ensures c.if-parameter_refusal-ne0.false in
    record { fits = omega (arith, c.area_of.ensures, area_few a.p k.most) }

pub stroke_at-requires : goal.stroke_at-requires
stroke_at-requires c =
    let a = c.args in
    let k = passed a.p a.levels.now _ c.parameter_refusal.ensures c.if-parameter_refusal-ne0.false in
    let q = c.first_taken-c.ensures.at (omega (arith, c.if-c-area_of.true, c.area_of.ensures)) in (
      omega (arith, c.if-c-area_of.true, c.area_of.ensures, area_few a.p k.most),
      taken_least a.p a.levels.now _ q,
      taken_most a.p a.levels.now _ q,
    )

pub returns-then-c-area_of : goal.returns-then-c-area_of
returns-then-c-area_of c =
    let a = c.args in
    let z : SFits w32 c.stroke_at.result = record { sfits = c.stroke_at.type_inv } in
    suggested a.p a.levels.now (sym c.if-parameter_refusal-ne0.false ∙ c.parameter_refusal.ensures) _ c.first_taken-c.ensures (omega (arith, c.if-c-area_of.true, c.area_of.ensures)) _ _ _ refl refl (to_z-of_z z ∙ c.stroke_at.ensures)

pub returns : goal.returns
returns c =
    let a = c.args in
    λ z. nothing_taken a.p a.levels.now z _ c.first_taken-c.ensures (omega (arith, c.if-c-area_of.false, c.area_of.ensures))

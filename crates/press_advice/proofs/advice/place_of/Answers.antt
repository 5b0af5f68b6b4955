use mathlib.Core.Path.{sym, ◌∙◌}
use Rattle.press_advice.specs.AdviceLaws.{refused_first, refused_then, passed, wide}
use Rattle.press_advice.proofs.advice.place_of.Goals as goal

pub returns-then-a-ne0 : goal.returns-then-a-ne0
returns-then-a-ne0 c = let a = c.args in refused_first a.p a.levels.now _ c.parameter_refusal-a.ensures c.if-a-ne0.true

pub refusal-n-requires : goal.refusal-n-requires
refusal-n-requires c = let a = c.args in (passed a.p a.levels.now _ c.parameter_refusal-a.ensures c.if-a-ne0.false, wide a.p a.levels.now _ c.parameter_refusal-a.ensures c.if-a-ne0.false)

pub far_place-requires : goal.far_place-requires
far_place-requires c =
    let a = c.args in (
      passed a.p a.levels.now _ c.parameter_refusal-a.ensures c.if-a-ne0.false,
      sym (refused_then a.p a.levels.now _ _ c.parameter_refusal-a.ensures c.if-a-ne0.false c.refusal-n.ensures) ∙ c.if-n-eq8.true,
    )

pub off_place-requires : goal.off_place-requires
off_place-requires c =
    let a = c.args in (
      passed a.p a.levels.now _ c.parameter_refusal-a.ensures c.if-a-ne0.false,
      sym (refused_then a.p a.levels.now _ _ c.parameter_refusal-a.ensures c.if-a-ne0.false c.refusal-n.ensures) ∙ c.if-n-eq11.true,
      wide a.p a.levels.now _ c.parameter_refusal-a.ensures c.if-a-ne0.false,
    )

pub returns : goal.returns
returns c =
    let a = c.args in
    refused_then a.p a.levels.now _ _ c.parameter_refusal-a.ensures c.if-a-ne0.false c.refusal-n.ensures

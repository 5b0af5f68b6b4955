use mathlib.Core.Path.{refl}
use Rattle.heat.specs.HeatLaws.{step_none, step_over, step_under}
use Rattle.heat.proofs.scaled.Goals as goal

-- `scaled` meets its contract. Assumes nothing.
pub returns-then-blocks-eq0 : goal.returns-then-blocks-eq0
returns-then-blocks-eq0 c = let a = c.args in step_none a.top a.count a.blocks c.if-blocks-eq0.true

pub returns-then-top-step : goal.returns-then-top-step
returns-then-top-step c =
    let a = c.args in
    step_over a.top a.count a.blocks _ _ _ _ c.if-blocks-eq0.false c.wide.ensures.0 c.wide-2.ensures.0 c.wide-3.ensures.0 refl c.if-top-step.true

pub returns : goal.returns
returns c =
    let a = c.args in
    step_under a.top a.count a.blocks _ _ _ _ c.if-blocks-eq0.false c.wide.ensures.0 c.wide-2.ensures.0 c.wide-3.ensures.0 refl c.if-top-step.false

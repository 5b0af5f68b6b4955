use Rattle.bulmegart_scales.specs.Scales.{scale_no, scale_yes}
use Rattle.bulmegart_scales.proofs.scales.bulmegart_read_scale.Goals as goal

pub returns-then-n-ne0 : goal.returns-then-n-ne0
returns-then-n-ne0 c = let a = c.args in scale_no a.payload.now a.state a.contexts.now a.component _ _ c.state_handed-n.ensures c.if-n-ne0.true c.scale_answer.ensures

pub returns : goal.returns
returns c = let a = c.args in scale_yes a.payload.now a.state a.contexts.now a.component _ _ c.read_scale-r.result _ _ c.state_handed-n.ensures c.if-n-ne0.false c.into.ensures c.read_scale-r.ensures c.scale_answer-2.ensures

use mathlib.Core.Path.{refl}
use Rattle.bulmegart_engine.specs.RestLaws.{rest_no, rest_yes, rest_fits}
use Rattle.bulmegart_align.proofs.align.bulmegart_rest.Goals as goal

pub returns-then-n-ne0 : goal.returns-then-n-ne0
returns-then-n-ne0 c = let a = c.args in rest_no a.payload.now a.state _ c.state_handed-n.ensures c.if-n-ne0.true

pub overflow_sub-result : goal.overflow_sub-result
overflow_sub-result c = let a = c.args in rest_fits a.payload.now _ _ _ c.rest-length.ensures refl

pub returns : goal.returns
returns c = let a = c.args in rest_yes a.payload.now a.state _ _ _ c.byte_align.result _ _ c.state_handed-n.ensures c.if-n-ne0.false c.into-e.ensures c.rest-length.ensures refl c.byte_align.ensures c.state_number.ensures

use Rattle.bulmegart_h264.specs.Exported.{block_no, block_yes}
use Rattle.bulmegart_h264.proofs.bulmegart_h264_residual_block.Goals as goal

pub returns-then-n-ne0 : goal.returns-then-n-ne0
returns-then-n-ne0 c = let a = c.args in block_no a.payload.now a.state a.contexts.now a.levels.now _ _ c.state_handed-n.ensures c.if-n-ne0.true c.block_answer.ensures

pub returns : goal.returns
returns c = let a = c.args in block_yes a.payload.now a.state a.contexts.now a.levels.now _ _ c.residual_block-r.result _ _ _ c.state_handed-n.ensures c.if-n-ne0.false c.into.ensures c.residual_block-r.ensures c.block_answer-2.ensures

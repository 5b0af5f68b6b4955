use Rattle.bulmegart_plain.specs.Laws.{block_no, block_yes}
use Rattle.bulmegart_plain_reader.proofs.plain.bulmegart_residual_coding_plain.Goals as goal

pub returns-then-n-ne0 : goal.returns-then-n-ne0
returns-then-n-ne0 c = let a = c.args in block_no a.payload.now a.state a.contexts.now a.statistics.now a.params a.levels.now _ _ c.block_handed-n.ensures c.if-n-ne0.true c.block_answer.ensures

pub returns : goal.returns
returns c = let a = c.args in block_yes a.payload.now a.state a.contexts.now a.statistics.now a.params a.levels.now _ _ c.residual_coding_plain-r.result _ _ _ _ _ c.block_handed-n.ensures c.if-n-ne0.false c.into.ensures c.into-2.ensures c.residual_coding_plain-r.ensures c.block_answer-2.ensures

use Rattle.bulmegart_reached.specs.Handed.{handed_no, handed_yes}
use Rattle.bulmegart_reached.proofs.bulmegart_reached.Goals as goal

pub returns-then-n-ne0 : goal.returns-then-n-ne0
returns-then-n-ne0 c =
    let a = c.args in
    handed_no a.payload.now a.state a.contexts.now a.statistics.now a.params a.levels.now c.block_handed-n.result c.block_handed-n.ensures c.if-n-ne0.true

pub returns : goal.returns
returns c =
    let a = c.args in
    handed_yes a.payload.now a.state a.contexts.now a.statistics.now a.params a.levels.now c.block_handed-n.result c.block_handed-n.ensures c.if-n-ne0.false
    c.into.result c.into-2.result c.reached-r.result c.into-3.result c.into.ensures c.into-2.ensures c.reached-r.ensures c.into-3.ensures

use Rattle.bulmegart_summary.specs.Laws.{block_no, block_yes}
use Rattle.bulmegart_summary.proofs.readers.bulmegart_read_kept.Goals as goal

pub returns-then-n-ne0 : goal.returns-then-n-ne0
returns-then-n-ne0 c =
    let a = c.args in
    block_no a.form a.payload.now a.state a.contexts.now a.statistics.now a.params a.levels.now a.counts.now a.sums.now a.whole _ _ c.block_handed-n.ensures c.if-n-ne0.true c.block_answer-no.ensures

pub returns : goal.returns
returns c =
    let a = c.args in
    block_yes a.form a.payload.now a.state a.contexts.now a.statistics.now a.params a.levels.now a.counts.now a.sums.now a.whole _ _ c.read_kept-r.result _ _ c.read_kept-r.new.contexts c.read_kept-r.new.stats c.read_kept-r.new.levels c.read_kept-r.new.counts c.read_kept-r.new.sums
    c.block_handed-n.ensures c.if-n-ne0.false c.into.ensures c.into-2.ensures c.read_kept-r.ensures.0 c.block_answer-block.ensures

use Rattle.bulmegart_blocks.specs.BlockLaws.{list_no_lem, list_yes}
use Rattle.bulmegart_readers.proofs.blocks.bulmegart_read_bins.Goals as goal

pub returns-then-n-ne0 : goal.returns-then-n-ne0
returns-then-n-ne0 c = let a = c.args in list_no_lem a.list.now a.statistics.now a.params a.levels.now _ _ c.params_flags-n.ensures c.if-n-ne0.true c.from.ensures

pub returns : goal.returns
returns c = let a = c.args in list_yes a.list.now a.statistics.now a.params a.levels.now _ _ c.read_bins-r.result _ _ _ c.params_flags-n.ensures c.if-n-ne0.false c.into.ensures c.read_bins-r.ensures c.from-2.ensures

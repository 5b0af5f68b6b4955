use Rattle.bulmegart_blocks.specs.Lists.{write_no_lem, write_yes}
use Rattle.bulmegart_writer.proofs.lists.bulmegart_write_bins.Goals as goal

pub returns-then-n-ne0 : goal.returns-then-n-ne0
returns-then-n-ne0 c =
    let a = c.args in
    write_no_lem a.params a.statistics.now a.levels.now a.skip a.rdpcm a.room.now c.write_handed-n.result c.from.result c.write_handed-n.ensures c.if-n-ne0.true c.from.ensures

pub returns : goal.returns
returns c =
    let a = c.args in
    write_yes a.params a.statistics.now a.levels.now a.skip a.rdpcm a.room.now c.write_handed-n.result c.from-2.result c.write_bins-r.result c.into.result c.is_set.result c.choice_of.result _ _ c.write_handed-n.ensures c.if-n-ne0.false c.into.ensures c.is_set.ensures c.choice_of.ensures c.write_bins-r.ensures.0 c.from-2.ensures

use mathlib.Core.Path.{◌∙◌}
use Rattle.bulmegart_pack.specs.Packed.{packed_same, pack_no, pack_yes}
use Rattle.bulmegart_pack.proofs.packs.bulmegart_pack_bins.Goals as goal

pub returns-then-n-ne0 : goal.returns-then-n-ne0
returns-then-n-ne0 c = let a = c.args in pack_no a.contexts.now a.statistics.now a.params a.list.now a.room.now c.params_flags-n.result c.from.result c.params_flags-n.ensures c.if-n-ne0.true c.from.ensures

pub returns : goal.returns
returns c = let a = c.args in pack_yes a.contexts.now a.statistics.now a.params a.list.now a.room.now c.params_flags-n.result c.from-2.result c.pack_bins-r.result c.into.result _ c.params_flags-n.ensures c.if-n-ne0.false c.into.ensures c.pack_bins-r.ensures.0 (c.from-2.ensures ∙ packed_same c.pack_bins-r.result)

use mathlib.Core.Path.{◌∙◌}
use Rattle.bulmegart_pack.specs.Packed.{packed_same}
use Rattle.bulmegart_pack.specs.Trays.{tray_seen_lem}
use Rattle.bulmegart_pack.proofs.trays.bulmegart_pack_tray.Goals as goal

pub returns : goal.returns
returns c = tray_seen_lem c.pack_tray-t.result c.from-a.result _ _ (c.from-a.ensures ∙ packed_same c.pack_tray-t.result.packing) c.pack_tray-t.ensures.0

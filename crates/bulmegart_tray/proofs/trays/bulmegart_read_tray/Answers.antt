use Rattle.bulmegart_tray.specs.Laws.{tray_none, tray_no, tray_yes}
use Rattle.bulmegart_tray.proofs.trays.bulmegart_read_tray.Goals as goal

-- `bulmegart_read_tray` meets its contract: one law for each way out. Assumes nothing.
pub returns-then-records-eq0 : goal.returns-then-records-eq0
returns-then-records-eq0 c =
    let a = c.args in
    tray_none a.payload.now a.state a.contexts.now a.statistics.now a.levels.now a.found.now a.records.now c.if-records-eq0.true

pub returns-then-n-ne0 : goal.returns-then-n-ne0
returns-then-n-ne0 c =
    let a = c.args in
    tray_no a.payload.now a.state a.contexts.now a.statistics.now a.levels.now a.found.now a.records.now _
    c.if-records-eq0.false c.state_handed-n.ensures c.if-n-ne0.true

pub returns : goal.returns
returns c =
    let a = c.args in
    tray_yes a.payload.now a.state a.contexts.now a.statistics.now a.levels.now a.found.now
    c.read_tray.result _ _ _ _ _ _ a.records.now _
    c.if-records-eq0.false
    c.state_handed-n.ensures c.if-n-ne0.false
    c.into.ensures c.read_tray.ensures c.into-2.ensures

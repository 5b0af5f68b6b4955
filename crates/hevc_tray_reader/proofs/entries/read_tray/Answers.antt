use Rattle.cabac.specs.NumberLaws.{checked_ok, checked_err}
use Rattle.hevc_tray.proofs.TrayCode.{rows_none, rows_refused}
use Rattle.hevc_tray_reader.proofs.entries.read_tray.Goals as goal

pub returns-then-records-eq0 : goal.returns-then-records-eq0
returns-then-records-eq0 c =
    rows_none c.args.bytes.now c.args.e c.args.contexts.now c.args.stats.now c.args.records.now c.args.levels.now c.args.found.now
    c.if-records-eq0.true

pub returns-in-Err : goal.returns-in-Err
returns-in-Err c =
    let k = checked_err _ _ c.in-Err.ensures in
    rows_refused c.args.bytes.now c.args.e c.args.contexts.now c.args.stats.now c.args.records.now c.args.levels.now c.args.found.now
    c.if-records-eq0.false _ k.0 k.1

pub read_blocks-requires : goal.read_blocks-requires
read_blocks-requires c = checked_ok _ c.in_default.ensures

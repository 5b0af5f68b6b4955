use mathlib.Core.Path.{refl, ap, ◌∙◌}
use native.Mathlib.Omega.{arith}
use Rattle.std.proofs.lemmas.Result.{err_from_is_err_and}
use Rattle.cabac.specs.Numbers.{checked}
use Rattle.cabac.specs.NumberLaws.{checked_ok, checked_err, checked_none, checked_some, payload_passed, ended_is, ended_not}
use Rattle.hevc_tray.proofs.ChecksCode.{tray_one, tray_two, tray_three, tray_four, tray_five, tray_six, tray_seven, tray_eight, tray_nine}
use Rattle.hevc_tray_reader.proofs.entries.check_tray.Goals as goal

pub returns-in_err-passed : goal.returns-in_err-passed
returns-in_err-passed c =
    let p = err_from_is_err_and c.from_residual.result c.from_residual.ensures.1 in
    let k = checked_err _ _ c.in_err-passed.ensures in
    rw (p.1, p.2) (checked_some _ k.1 ∙ ap checked (tray_one c.args.bytes.now c.args.e c.args.contexts.now c.args.stats.now c.args.records.now c.args.levels.now c.args.rooms
    _ (k.0 ∙ c.payload_refusal.ensures) k.1))

pub returns-then-records-gt256 : goal.returns-then-records-gt256
returns-then-records-gt256 c =
    checked_some 4 (λ z. omega arith) ∙ ap checked (tray_two c.args.bytes.now c.args.e c.args.contexts.now c.args.stats.now c.args.records.now c.args.levels.now c.args.rooms
    (checked_ok _ c.in_ok-passed.ensures ∙ c.payload_refusal.ensures) c.if-records-gt256.true)

pub returns-in_err-passed-2 : goal.returns-in_err-passed-2
returns-in_err-passed-2 c =
    let p = err_from_is_err_and c.from_residual-in_err-passed-2.result c.from_residual-in_err-passed-2.ensures.1 in
    let k = checked_err _ _ c.in_err-passed-2.ensures in
    rw (p.1, p.2) (checked_some _ k.1 ∙ ap checked (tray_three c.args.bytes.now c.args.e c.args.contexts.now c.args.stats.now c.args.records.now c.args.levels.now c.args.rooms
    (checked_ok _ c.in_ok-passed.ensures ∙ c.payload_refusal.ensures) c.if-records-gt256.false _ (k.0 ∙ c.rows_refusal.ensures) k.1))

pub returns-in_err-check_records : goal.returns-in_err-check_records
returns-in_err-check_records c =
    let p = err_from_is_err_and c.from_residual-in_err-check_records.result c.from_residual-in_err-check_records.ensures.1 in
    let k = checked_err _ _ c.in_err-check_records.ensures in
    rw (p.1, p.2) (checked_some _ k.1 ∙ ap checked (tray_four c.args.bytes.now c.args.e c.args.contexts.now c.args.stats.now c.args.records.now c.args.levels.now c.args.rooms
    (checked_ok _ c.in_ok-passed.ensures ∙ c.payload_refusal.ensures) c.if-records-gt256.false (checked_ok _ c.in_ok-passed-2.ensures ∙ c.rows_refusal.ensures) _ k.0 k.1))

pub returns-then-rooms-records : goal.returns-then-rooms-records
returns-then-rooms-records c =
    checked_some 4 (λ z. omega arith) ∙ ap checked (tray_five c.args.bytes.now c.args.e c.args.contexts.now c.args.stats.now c.args.records.now c.args.levels.now c.args.rooms
    (checked_ok _ c.in_ok-passed.ensures ∙ c.payload_refusal.ensures) c.if-records-gt256.false (checked_ok _ c.in_ok-passed-2.ensures ∙ c.rows_refusal.ensures) (checked_ok _ c.in_ok-check_records.ensures) c.if-rooms-records.true)

pub state_refusal-requires : goal.state_refusal-requires
state_refusal-requires c = payload_passed c.args.bytes.now (checked_ok _ c.in_ok-passed.ensures ∙ c.payload_refusal.ensures)

pub returns-in_err-passed-3 : goal.returns-in_err-passed-3
returns-in_err-passed-3 c =
    let p = err_from_is_err_and c.from_residual-in_err-passed-3.result c.from_residual-in_err-passed-3.ensures.1 in
    let k = checked_err _ _ c.in_err-passed-3.ensures in
    rw (p.1, p.2) (checked_some _ k.1 ∙ ap checked (tray_six c.args.bytes.now c.args.e c.args.contexts.now c.args.stats.now c.args.records.now c.args.levels.now c.args.rooms
    (checked_ok _ c.in_ok-passed.ensures ∙ c.payload_refusal.ensures) c.if-records-gt256.false (checked_ok _ c.in_ok-passed-2.ensures ∙ c.rows_refusal.ensures) (checked_ok _ c.in_ok-check_records.ensures) c.if-rooms-records.false _ (k.0 ∙ c.state_refusal.ensures) k.1))

pub returns-in_err-passed-4 : goal.returns-in_err-passed-4
returns-in_err-passed-4 c =
    let p = err_from_is_err_and c.from_residual-in_err-passed-4.result c.from_residual-in_err-passed-4.ensures.1 in
    let k = checked_err _ _ c.in_err-passed-4.ensures in
    rw (p.1, p.2) (checked_some _ k.1 ∙ ap checked (tray_seven c.args.bytes.now c.args.e c.args.contexts.now c.args.stats.now c.args.records.now c.args.levels.now c.args.rooms
    (checked_ok _ c.in_ok-passed.ensures ∙ c.payload_refusal.ensures) c.if-records-gt256.false (checked_ok _ c.in_ok-passed-2.ensures ∙ c.rows_refusal.ensures) (checked_ok _ c.in_ok-check_records.ensures) c.if-rooms-records.false (checked_ok _ c.in_ok-passed-3.ensures ∙ c.state_refusal.ensures) _ (k.0 ∙ c.above_refusal.ensures) k.1))

pub returns-in_err-passed-5 : goal.returns-in_err-passed-5
returns-in_err-passed-5 c =
    let p = err_from_is_err_and c.from_residual-in_err-passed-5.result c.from_residual-in_err-passed-5.ensures.1 in
    let k = checked_err _ _ c.in_err-passed-5.ensures in
    rw (p.1, p.2) (checked_some _ k.1 ∙ ap checked (tray_eight c.args.bytes.now c.args.e c.args.contexts.now c.args.stats.now c.args.records.now c.args.levels.now c.args.rooms
    (checked_ok _ c.in_ok-passed.ensures ∙ c.payload_refusal.ensures) c.if-records-gt256.false (checked_ok _ c.in_ok-passed-2.ensures ∙ c.rows_refusal.ensures) (checked_ok _ c.in_ok-check_records.ensures) c.if-rooms-records.false (checked_ok _ c.in_ok-passed-3.ensures ∙ c.state_refusal.ensures) (checked_ok _ c.in_ok-passed-4.ensures ∙ c.above_refusal.ensures) _ (k.0 ∙ c.above_refusal-2.ensures) k.1))

pub returns-then-e : goal.returns-then-e
returns-then-e c =
    checked_some 6 (λ z. omega arith) ∙ ap checked (tray_nine c.args.bytes.now c.args.e c.args.contexts.now c.args.stats.now c.args.records.now c.args.levels.now c.args.rooms
    (checked_ok _ c.in_ok-passed.ensures ∙ c.payload_refusal.ensures) c.if-records-gt256.false (checked_ok _ c.in_ok-passed-2.ensures ∙ c.rows_refusal.ensures) (checked_ok _ c.in_ok-check_records.ensures) c.if-rooms-records.false
    (checked_ok _ c.in_ok-passed-3.ensures ∙ c.state_refusal.ensures) (checked_ok _ c.in_ok-passed-4.ensures ∙ c.above_refusal.ensures) (checked_ok _ c.in_ok-passed-5.ensures ∙ c.above_refusal-2.ensures) 6 (ended_is c.args.e c.if-e.true))

pub returns : goal.returns
returns c =
    checked_none 0 refl ∙ ap checked (tray_nine c.args.bytes.now c.args.e c.args.contexts.now c.args.stats.now c.args.records.now c.args.levels.now c.args.rooms
    (checked_ok _ c.in_ok-passed.ensures ∙ c.payload_refusal.ensures) c.if-records-gt256.false (checked_ok _ c.in_ok-passed-2.ensures ∙ c.rows_refusal.ensures) (checked_ok _ c.in_ok-check_records.ensures) c.if-rooms-records.false
    (checked_ok _ c.in_ok-passed-3.ensures ∙ c.state_refusal.ensures) (checked_ok _ c.in_ok-passed-4.ensures ∙ c.above_refusal.ensures) (checked_ok _ c.in_ok-passed-5.ensures ∙ c.above_refusal-2.ensures) 0 (ended_not c.args.e c.if-e.false))

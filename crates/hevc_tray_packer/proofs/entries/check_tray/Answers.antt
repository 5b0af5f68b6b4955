use native.Mathlib.Omega.{arith}
use mathlib.Core.Path.{ap, ◌∙◌}
use Rattle.std.proofs.lemmas.Result.{err_from_is_err_and}
use Rattle.cabac.specs.Numbers.{checked}
use Rattle.cabac.specs.NumberLaws.{checked_ok, checked_err, checked_some}
use Rattle.hevc_tray_packer.specs.EntryCode.{checks_one, checks_two, checks_three, checks_four, checks_five}
use Rattle.hevc_tray_packer.proofs.entries.check_tray.Goals as goal

pub returns-in_err-passed : goal.returns-in_err-passed
returns-in_err-passed c =
    let a = c.args in
    let p = err_from_is_err_and c.from_residual.result c.from_residual.ensures.1 in
    let k = checked_err _ _ c.in_err-passed.ensures in
    rw (p.1, p.2) (checked_some _ k.1 ∙ ap checked (checks_one a.contexts.now a.stats.now a.records.now _ (k.0 ∙ c.rows_refusal.ensures) k.1))

pub returns-then-records-gt256 : goal.returns-then-records-gt256
returns-then-records-gt256 c =
    let a = c.args in
    let z = checked_ok _ c.in_ok-passed.ensures ∙ c.rows_refusal.ensures in
    checked_some 4 (λ z. omega arith) ∙ ap checked (checks_two a.contexts.now a.stats.now a.records.now z (omega (arith, c.if-records-gt256.true)))

pub returns-in_err-check_records : goal.returns-in_err-check_records
returns-in_err-check_records c =
    let a = c.args in
    let z = checked_ok _ c.in_ok-passed.ensures ∙ c.rows_refusal.ensures in
    let p = err_from_is_err_and c.from_residual-in_err-check_records.result c.from_residual-in_err-check_records.ensures.1 in
    let k = checked_err _ _ c.in_err-check_records.ensures in
    rw (p.1, p.2) (checked_some _ k.1 ∙ ap checked (checks_three a.contexts.now a.stats.now a.records.now z (omega (arith, c.if-records-gt256.false)) _ k.0 k.1))

pub returns-in_err-passed-2 : goal.returns-in_err-passed-2
returns-in_err-passed-2 c =
    let a = c.args in
    let z = checked_ok _ c.in_ok-passed.ensures ∙ c.rows_refusal.ensures in
    let p = err_from_is_err_and c.from_residual-in_err-passed-2.result c.from_residual-in_err-passed-2.ensures.1 in
    let k = checked_err _ _ c.in_err-passed-2.ensures in
    rw (p.1, p.2) (checked_some _ k.1 ∙ ap checked (checks_four a.contexts.now a.stats.now a.records.now z (omega (arith, c.if-records-gt256.false))
    (checked_ok _ c.in_ok-check_records.ensures) _ (k.0 ∙ c.above_refusal.ensures) k.1))

pub returns : goal.returns
returns c =
    let a = c.args in
    let z = checked_ok _ c.in_ok-passed.ensures ∙ c.rows_refusal.ensures in
    c.passed-3.ensures
    ∙ ap checked (checks_five a.contexts.now a.stats.now a.records.now z (omega (arith, c.if-records-gt256.false)) (checked_ok _ c.in_ok-check_records.ensures)
    (checked_ok _ c.in_ok-passed-2.ensures ∙ c.above_refusal.ensures) c.above_refusal-2.result c.above_refusal-2.ensures)

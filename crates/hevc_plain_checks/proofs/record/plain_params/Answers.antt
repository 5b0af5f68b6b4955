use mathlib.Core.Path.{◌∙◌}
use Rattle.std.proofs.lemmas.Result.{err_from_is_err_and}
use Rattle.cabac.specs.NumberLaws.{checked_ok, checked_err}
use Rattle.hevc_plain_checks.specs.Record.{record_first, record_second, record_made}
use Rattle.hevc_plain_checks.proofs.record.plain_params.Goals as goal

pub returns-in_err-check_limits : goal.returns-in_err-check_limits
returns-in_err-check_limits c =
    let a = c.args in
    let p = err_from_is_err_and c.from_residual.result c.from_residual.ensures.1 in
    let k = checked_err _ _ c.in_err-check_limits.ensures in
    rw (p.1, p.2) (record_first a.log2 a.luma a.scan a.hiding a.skip_allowed a.lossless a.inter _ k.0 k.1)

pub returns-in_err-passed : goal.returns-in_err-passed
returns-in_err-passed c =
    let a = c.args in
    let p = err_from_is_err_and c.from_residual-in_err-passed.result c.from_residual-in_err-passed.ensures.1 in
    let k = checked_err _ _ c.in_err-passed.ensures in
    rw (p.1, p.2) (record_second a.log2 a.luma a.scan a.hiding a.skip_allowed a.lossless a.inter (checked_ok _ c.in_ok-check_limits.ensures) _ (k.0 ∙ c.plain_refusal.ensures) k.1)

pub returns : goal.returns
returns c =
    let a = c.args in
    record_made a.log2 a.luma a.scan a.hiding a.skip_allowed a.lossless a.inter (checked_ok _ c.in_ok-check_limits.ensures) (checked_ok _ c.in_ok-passed.ensures ∙ c.plain_refusal.ensures)

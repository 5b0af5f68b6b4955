use mathlib.Core.Path.{◌∙◌}
use Rattle.std.proofs.lemmas.Result.{err_from_is_err_and}
use Rattle.cabac.specs.NumberLaws.{checked_ok, checked_err}
use Rattle.hevc_plain_checks.specs.PlainCode.{bins_first, bins_left}
use Rattle.hevc_plain_coding.proofs.entries.read_bins_plain.Goals as goal

pub returns-in_err-passed : goal.returns-in_err-passed
returns-in_err-passed c =
    let a = c.args in
    let p = err_from_is_err_and c.from_residual.result c.from_residual.ensures.1 in
    let k = checked_err _ _ c.in_err-passed.ensures in
    rw (p.1, p.2) (bins_first a.bytes.now a.stats.now a.p a.block.now _ (k.0 ∙ c.plain_checks.ensures) k.1)

pub returns : goal.returns
returns c =
    let a = c.args in
    bins_left a.bytes.now a.stats.now a.p a.block.now (checked_ok _ c.in_ok-passed.ensures ∙ c.plain_checks.ensures) _ c.read_bins.ensures

use mathlib.Core.Path.{◌∙◌}
use Rattle.std.proofs.lemmas.Result.{err_from_is_err_and}
use Rattle.cabac.specs.NumberLaws.{checked_ok, checked_err}
use Rattle.hevc_plain_checks.specs.PlainCode.{payload_first, payload_second, payload_left}
use Rattle.hevc_plain_coding.proofs.entries.residual_coding_plain.Goals as goal

pub returns-in_err-passed : goal.returns-in_err-passed
returns-in_err-passed c =
    let a = c.args in
    let p = err_from_is_err_and c.from_residual.result c.from_residual.ensures.1 in
    let k = checked_err _ _ c.in_err-passed.ensures in
    rw (p.1, p.2) (payload_first a.bytes.now a.e a.contexts.now a.stats.now a.p a.block.now _ (k.0 ∙ c.payload_refusal.ensures) k.1)

pub returns-in_err-passed-2 : goal.returns-in_err-passed-2
returns-in_err-passed-2 c =
    let a = c.args in
    let p = err_from_is_err_and c.from_residual-in_err-passed-2.result c.from_residual-in_err-passed-2.ensures.1 in
    let k = checked_err _ _ c.in_err-passed-2.ensures in
    rw (p.1, p.2) (payload_second a.bytes.now a.e a.contexts.now a.stats.now a.p a.block.now (checked_ok _ c.in_ok-passed.ensures ∙ c.payload_refusal.ensures) _ (k.0 ∙ c.plain_checks.ensures) k.1)

pub returns : goal.returns
returns c =
    let a = c.args in
    payload_left a.bytes.now a.e a.contexts.now a.stats.now a.p a.block.now (checked_ok _ c.in_ok-passed-2.ensures ∙ c.plain_checks.ensures) _ c.residual_coding.ensures

use mathlib.Core.Path.{ap, ◌∙◌}
use Rattle.std.proofs.lemmas.Result.{err_from_is_err_and}
use Rattle.cabac.specs.Numbers.{checked, payload_refusal, state_refusal}
use Rattle.cabac.specs.NumberLaws.{checked_ok, checked_first, checked_rest, payload_passed}
use Rattle.cabac_checks.proofs.checks.check_state.Goals as goal

pub returns-in_err-passed : goal.returns-in_err-passed
returns-in_err-passed c =
    let a = c.args in
    let p = err_from_is_err_and c.from_residual.result c.from_residual.ensures.1 in
    rw (p.1, p.2) (checked_first _ (payload_refusal a.bytes.now) (state_refusal a.bytes.now a.e) (c.in_err-passed.ensures ∙ ap checked c.payload_refusal.ensures))

pub state_refusal-requires : goal.state_refusal-requires
state_refusal-requires c = payload_passed c.args.bytes.now (checked_ok _ c.in_ok-passed.ensures ∙ c.payload_refusal.ensures)

pub returns : goal.returns
returns c =
    let a = c.args in
    c.passed-2.ensures ∙ ap checked c.state_refusal.ensures
    ∙ checked_rest (payload_refusal a.bytes.now) (state_refusal a.bytes.now a.e) (checked_ok _ c.in_ok-passed.ensures ∙ c.payload_refusal.ensures)

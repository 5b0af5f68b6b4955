use mathlib.Core.Path.{refl, ap, ◌∙◌}
use native.Mathlib.Omega.{arith}
use Rattle.std.proofs.lemmas.Result.{err_from_is_err_and}
use Rattle.cabac.specs.Numbers.{checked}
use Rattle.cabac.specs.NumberLaws.{checked_ok, checked_none, checked_some, payload_passed, ended_is, ended_not}
use Rattle.hevc_payload_checks.specs.PayloadLaws.{checks_one, checks_two, checks_three, checks_four, checks_five, checks_six}
use Rattle.hevc_payload_checks.proofs.checks.check_payload.Goals as goal

pub returns-in_err-passed : goal.returns-in_err-passed
returns-in_err-passed c =
    let a = c.args in
    let p = err_from_is_err_and c.from_residual.result c.from_residual.ensures.1 in
    rw (p.1, p.2) (checks_one a.bytes.now a.e a.contexts.now a.stats.now a.p a.block.now _ (c.in_err-passed.ensures ∙ ap checked c.payload_refusal.ensures))

pub returns-in_err-passed-2 : goal.returns-in_err-passed-2
returns-in_err-passed-2 c =
    let a = c.args in
    let p = err_from_is_err_and c.from_residual-in_err-passed-2.result c.from_residual-in_err-passed-2.ensures.1 in
    rw (p.1, p.2) (checks_two a.bytes.now a.e a.contexts.now a.stats.now a.p a.block.now (checked_ok _ c.in_ok-passed.ensures ∙ c.payload_refusal.ensures)
    _ (c.in_err-passed-2.ensures ∙ ap checked c.parameter_refusal.ensures))

pub state_refusal-requires : goal.state_refusal-requires
state_refusal-requires c = payload_passed c.args.bytes.now (checked_ok _ c.in_ok-passed.ensures ∙ c.payload_refusal.ensures)

pub returns-in_err-passed-3 : goal.returns-in_err-passed-3
returns-in_err-passed-3 c =
    let a = c.args in
    let p = err_from_is_err_and c.from_residual-in_err-passed-3.result c.from_residual-in_err-passed-3.ensures.1 in
    rw (p.1, p.2) (checks_three a.bytes.now a.e a.contexts.now a.stats.now a.p a.block.now (checked_ok _ c.in_ok-passed.ensures ∙ c.payload_refusal.ensures)
    (checked_ok _ c.in_ok-passed-2.ensures ∙ c.parameter_refusal.ensures) _ (c.in_err-passed-3.ensures ∙ ap checked c.state_refusal.ensures))

pub returns-in_err-passed-4 : goal.returns-in_err-passed-4
returns-in_err-passed-4 c =
    let a = c.args in
    let p = err_from_is_err_and c.from_residual-in_err-passed-4.result c.from_residual-in_err-passed-4.ensures.1 in
    rw (p.1, p.2) (checks_four a.bytes.now a.e a.contexts.now a.stats.now a.p a.block.now (checked_ok _ c.in_ok-passed.ensures ∙ c.payload_refusal.ensures)
    (checked_ok _ c.in_ok-passed-2.ensures ∙ c.parameter_refusal.ensures) (checked_ok _ c.in_ok-passed-3.ensures ∙ c.state_refusal.ensures)
    _ (c.in_err-passed-4.ensures ∙ ap checked c.above_refusal.ensures))

pub returns-in_err-passed-5 : goal.returns-in_err-passed-5
returns-in_err-passed-5 c =
    let a = c.args in
    let p = err_from_is_err_and c.from_residual-in_err-passed-5.result c.from_residual-in_err-passed-5.ensures.1 in
    rw (p.1, p.2) (checks_five a.bytes.now a.e a.contexts.now a.stats.now a.p a.block.now (checked_ok _ c.in_ok-passed.ensures ∙ c.payload_refusal.ensures)
    (checked_ok _ c.in_ok-passed-2.ensures ∙ c.parameter_refusal.ensures) (checked_ok _ c.in_ok-passed-3.ensures ∙ c.state_refusal.ensures)
    (checked_ok _ c.in_ok-passed-4.ensures ∙ c.above_refusal.ensures) _ (c.in_err-passed-5.ensures ∙ ap checked c.above_refusal-2.ensures))

pub returns-then-e : goal.returns-then-e
returns-then-e c =
    let a = c.args in
    checked_some 6 (λ z. omega arith) ∙ ap checked (ended_is a.e c.if-e.true)
    ∙ checks_six a.bytes.now a.e a.contexts.now a.stats.now a.p a.block.now (checked_ok _ c.in_ok-passed.ensures ∙ c.payload_refusal.ensures)
    (checked_ok _ c.in_ok-passed-2.ensures ∙ c.parameter_refusal.ensures) (checked_ok _ c.in_ok-passed-3.ensures ∙ c.state_refusal.ensures)
    (checked_ok _ c.in_ok-passed-4.ensures ∙ c.above_refusal.ensures) (checked_ok _ c.in_ok-passed-5.ensures ∙ c.above_refusal-2.ensures)

pub returns : goal.returns
returns c =
    let a = c.args in
    checked_none 0 refl ∙ ap checked (ended_not a.e c.if-e.false)
    ∙ checks_six a.bytes.now a.e a.contexts.now a.stats.now a.p a.block.now (checked_ok _ c.in_ok-passed.ensures ∙ c.payload_refusal.ensures)
    (checked_ok _ c.in_ok-passed-2.ensures ∙ c.parameter_refusal.ensures) (checked_ok _ c.in_ok-passed-3.ensures ∙ c.state_refusal.ensures)
    (checked_ok _ c.in_ok-passed-4.ensures ∙ c.above_refusal.ensures) (checked_ok _ c.in_ok-passed-5.ensures ∙ c.above_refusal-2.ensures)

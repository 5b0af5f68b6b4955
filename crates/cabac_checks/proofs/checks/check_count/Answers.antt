use native.Mathlib.Omega.{arith}
use mathlib.Core.Path.{ap, ◌∙◌}
use Rattle.std.proofs.lemmas.Result.{err_from_is_err_and}
use Rattle.cabac.specs.Numbers.{checked, ◌or_else◌, payload_refusal, count_refusal, state_refusal}
use Rattle.cabac.specs.NumberLaws.{checked_ok, checked_some, checked_first, checked_rest, or_else_first, payload_passed, count_high, count_fine}
use Rattle.cabac_checks.proofs.checks.check_count.Goals as goal

pub returns-in_err-passed : goal.returns-in_err-passed
returns-in_err-passed c =
    let a = c.args in
    let p = err_from_is_err_and c.from_residual.result c.from_residual.ensures.1 in
    rw (p.1, p.2) (checked_first _ (payload_refusal a.bytes.now) (count_refusal a.count or_else state_refusal a.bytes.now a.e) (c.in_err-passed.ensures ∙ ap checked c.payload_refusal.ensures))

pub returns-then-count-gt32 : goal.returns-then-count-gt32
returns-then-count-gt32 c =
    let a = c.args in
    let k = or_else_first 4 (count_refusal a.count) (state_refusal a.bytes.now a.e) (count_high a.count c.if-count-gt32.true) (λ z. omega arith) in
    checked_some 4 (λ z. omega arith) ∙ ap checked k
    ∙ checked_rest (payload_refusal a.bytes.now) (count_refusal a.count or_else state_refusal a.bytes.now a.e) (checked_ok _ c.in_ok-passed.ensures ∙ c.payload_refusal.ensures)

pub state_refusal-requires : goal.state_refusal-requires
state_refusal-requires c = payload_passed c.args.bytes.now (checked_ok _ c.in_ok-passed.ensures ∙ c.payload_refusal.ensures)

pub returns : goal.returns
returns c =
    let a = c.args in
    c.passed-2.ensures ∙ ap checked c.state_refusal.ensures
    ∙ checked_rest (count_refusal a.count) (state_refusal a.bytes.now a.e) (count_fine a.count c.if-count-gt32.false)
    ∙ checked_rest (payload_refusal a.bytes.now) (count_refusal a.count or_else state_refusal a.bytes.now a.e) (checked_ok _ c.in_ok-passed.ensures ∙ c.payload_refusal.ensures)

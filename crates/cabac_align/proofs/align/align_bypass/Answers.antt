use native.Mathlib.Omega.{arith}
use Rattle.cabac.specs.EntryLaws.{align_bypass_no, align_bypass_ended, align_bypass_high, align_bypass_yes, passed_runs}
use Rattle.std.proofs.lemmas.Result.{err_from_is_err_and}
use Rattle.cabac.specs.NumberLaws.{checked_ok, checked_err}
use Rattle.cabac_align.proofs.align.align_bypass.Goals as goal

pub returns-in_err-check_state : goal.returns-in_err-check_state
returns-in_err-check_state c =
    let a = c.args in
    let p = err_from_is_err_and c.from_residual.result c.from_residual.ensures.1 in
    let k = checked_err _ _ c.in_err-check_state.ensures in
    rw (p.1, p.2) (align_bypass_no a.bytes.now a.e _ k.0 k.1)

pub returns-then-e : goal.returns-then-e
returns-then-e c = let a = c.args in align_bypass_ended a.bytes.now a.e (checked_ok _ c.in_ok-check_state.ensures) c.if-e.true

pub returns-then-e-ge256 : goal.returns-then-e-ge256
returns-then-e-ge256 c =
    let a = c.args in
    let q = checked_ok _ c.in_ok-check_state.ensures in
    let runs = passed_runs a.bytes.now a.e q c.if-e.false in
    align_bypass_high a.bytes.now a.e q c.if-e.false (omega (arith, c.if-e-ge256.true, runs.least))

pub returns : goal.returns
returns c =
    let a = c.args in
    align_bypass_yes a.bytes.now a.e (checked_ok _ c.in_ok-check_state.ensures) c.if-e.false (omega (arith, c.if-e-ge256.false))

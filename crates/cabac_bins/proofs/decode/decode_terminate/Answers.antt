use native.Mathlib.Omega.{arith}
use mathlib.Core.Path.{ap, ◌∙◌}
use Prim.Native.Nat.{◌-◌}
use Rattle.bins.specs.Interval.{renormed_on}
use Rattle.bins.specs.declared.state.Interval.{Interval}
use Rattle.cabac.specs.EntryLaws.{terminate_no, terminate_ended, terminate_one, terminate_zero, opened_renorms, passed_fits, passed_runs}
use Rattle.std.proofs.lemmas.Result.{err_from_is_err_and}
use Rattle.cabac.specs.NumberLaws.{checked_ok, checked_err}
use Rattle.cabac_bins.proofs.decode.decode_terminate.Goals as goal

pub returns-in_err-check_state : goal.returns-in_err-check_state
returns-in_err-check_state c =
    let a = c.args in
    let p = err_from_is_err_and c.from_residual.result c.from_residual.ensures.1 in
    let k = checked_err _ _ c.in_err-check_state.ensures in
    rw (p.1, p.2) (terminate_no a.bytes.now a.e _ k.0 k.1)

pub returns-then-e : goal.returns-then-e
returns-then-e c =
    let a = c.args in
    terminate_ended a.bytes.now a.e (checked_ok _ c.in_ok-check_state.ensures) c.if-e.true

pub overflow_sub-range : goal.overflow_sub-range
overflow_sub-range c =
    let a = c.args in
    omega (arith, (passed_runs a.bytes.now a.e (checked_ok _ c.in_ok-check_state.ensures) c.if-e.false).least)

pub returns-then-range-offset : goal.returns-then-range-offset
returns-then-range-offset c =
    let a = c.args in
    terminate_one a.bytes.now a.e (checked_ok _ c.in_ok-check_state.ensures) c.if-e.false c.if-range-offset.true

pub renorm-next-requires : goal.renorm-next-requires
renorm-next-requires c =
    let a = c.args in
    opened_renorms a.bytes.now a.e _ c.«open».ensures (checked_ok _ c.in_ok-check_state.ensures) c.if-e.false c.if-range-offset.false

pub settle-state-requires : goal.settle-state-requires
settle-state-requires c =
    let a = c.args in
    (passed_fits a.bytes.now a.e (checked_ok _ c.in_ok-check_state.ensures)).0

pub returns : goal.returns
returns c =
    let a = c.args in
    terminate_zero a.bytes.now a.e _ _ (checked_ok _ c.in_ok-check_state.ensures) c.if-e.false c.if-range-offset.false (c.renorm-next.ensures ∙ ap (λ (x : Interval). renormed_on a.bytes.now x (a.e.range - 2) a.e.offset) c.«open».ensures) c.settle-state.ensures

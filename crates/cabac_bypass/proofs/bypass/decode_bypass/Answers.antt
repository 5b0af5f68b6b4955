use native.Mathlib.Omega.{arith}
use mathlib.Core.Path.{ap, ◌∙◌}
use Rattle.bins.specs.Interval.{bypassed_on}
use Rattle.bins.specs.declared.state.Interval.{Interval}
use Rattle.cabac.specs.EntryLaws.{bypass_no_lem, bypass_ended, bypass_yes, counted_one, opened_goes, passed_fits}
use Rattle.std.proofs.lemmas.Result.{err_from_is_err_and}
use Rattle.cabac.specs.NumberLaws.{checked_ok, checked_err}
use Rattle.cabac_bypass.proofs.bypass.decode_bypass.Goals as goal

pub returns-in_err-check_state : goal.returns-in_err-check_state
returns-in_err-check_state c =
    let a = c.args in
    let p = err_from_is_err_and c.from_residual.result c.from_residual.ensures.1 in
    let k = checked_err _ _ c.in_err-check_state.ensures in
    rw (p.1, p.2) (bypass_no_lem a.bytes.now a.e 1 _ (counted_one a.bytes.now a.e _ 1 (omega arith) k.0) k.1)

pub returns-then-e : goal.returns-then-e
returns-then-e c = let a = c.args in bypass_ended a.bytes.now a.e 1 (counted_one a.bytes.now a.e 0 1 (omega arith) (checked_ok _ c.in_ok-check_state.ensures)) c.if-e.true

pub bypass_one-t-requires : goal.bypass_one-t-requires
bypass_one-t-requires c = let a = c.args in opened_goes a.bytes.now a.e _ c.«open».ensures (checked_ok _ c.in_ok-check_state.ensures) c.if-e.false

pub bins_of-requires : goal.bins_of-requires
bins_of-requires c = let a = c.args in (passed_fits a.bytes.now a.e (checked_ok _ c.in_ok-check_state.ensures)).0

pub returns : goal.returns
returns c = let a = c.args in bypass_yes a.bytes.now a.e 1 _ _ (counted_one a.bytes.now a.e 0 1 (omega arith) (checked_ok _ c.in_ok-check_state.ensures)) c.if-e.false (c.bypass_one-t.ensures ∙ ap (λ (x : Interval). bypassed_on a.bytes.now x 1) c.«open».ensures) c.bins_of.ensures

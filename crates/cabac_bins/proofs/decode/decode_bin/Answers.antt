use native.Mathlib.Omega.{arith}
use Prim.Native.Nat.{◌+◌, ◌*◌, ◌/◌, ◌%◌}
use mathlib.Core.Path.{sym, ap, ◌∙◌}
use lib.ListN.{get_or}
use Rattle.tables.specs.Decisions.{decisions}
use Rattle.bins.specs.Interval.{decided_on, decided_value}
use Rattle.bins.specs.declared.state.Interval.{Interval}
use Rattle.cabac.specs.EntryLaws.{decision_no, decision_context, decision_ended, decision_yes, opened_goes, passed_fits}
use Rattle.std.proofs.lemmas.Result.{err_from_is_err_and}
use Rattle.cabac.specs.NumberLaws.{checked_ok, checked_err}
use Rattle.cabac_bins.proofs.decode.decode_bin.Goals as goal

pub returns-in_err-check_state : goal.returns-in_err-check_state
returns-in_err-check_state c =
    let a = c.args in
    let p = err_from_is_err_and c.from_residual.result c.from_residual.ensures.1 in
    let k = checked_err _ _ c.in_err-check_state.ensures in
    rw (p.1, p.2) (decision_no a.bytes.now a.e a.ctx _ k.0 k.1)

pub returns-then-ctx-gt127 : goal.returns-then-ctx-gt127
returns-then-ctx-gt127 c =
    let a = c.args in
    decision_context a.bytes.now a.e a.ctx (checked_ok _ c.in_ok-check_state.ensures) c.if-ctx-gt127.true

pub returns-then-e : goal.returns-then-e
returns-then-e c =
    let a = c.args in
    decision_ended a.bytes.now a.e a.ctx (checked_ok _ c.in_ok-check_state.ensures) c.if-ctx-gt127.false c.if-e.true

pub decide_by-t-requires : goal.decide_by-t-requires
decide_by-t-requires c =
    let a = c.args in
    (opened_goes a.bytes.now a.e _ c.«open».ensures (checked_ok _ c.in_ok-check_state.ensures) c.if-e.false, omega arith, c.decision_entry-entry.ensures ∙ ap (λ (x : Interval). get_or decisions (a.ctx * 4 + x.range / 64 % 4) 0) (sym c.«open».ensures))

pub settle-state-requires : goal.settle-state-requires
settle-state-requires c =
    let a = c.args in
    (passed_fits a.bytes.now a.e (checked_ok _ c.in_ok-check_state.ensures)).0

pub returns : goal.returns
returns c =
    let a = c.args in
    let o = c.«open».ensures in
    decision_yes a.bytes.now a.e a.ctx _ _ _ (checked_ok _ c.in_ok-check_state.ensures) c.if-ctx-gt127.false c.if-e.false (c.decide_by-t.ensures.0 ∙ ap (λ (x : Interval). decided_value a.bytes.now x a.ctx) o) (c.decide_by-t.ensures.1 ∙ ap (λ (x : Interval). (decided_on a.bytes.now x a.ctx).ctx) o) c.settle-state.ensures

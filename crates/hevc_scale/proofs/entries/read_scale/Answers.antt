use Rattle.std.proofs.Common.{sym, subst, false}
use Rattle.std.proofs.lemmas.Result.{err_from_is_err_and}
use Rattle.cabac.specs.NumberLaws.{checked_ok, checked_err}
use Rattle.bins.specs.declared.state.Interval.{Interval}
use Rattle.bins.specs.Interval.{Goes}
use Rattle.hevc_elements.specs.Agree.{from}
use Rattle.hevc_cross.specs.Scale.{scale_s}
use Rattle.hevc_scale_syntax.specs.Agree.{nothing, SaysScale}
use Rattle.hevc_scale.specs.EntriesLaws.{payload_no_lem, checks_passed, payload_refused, payload_got}
use Rattle.hevc_scale.proofs.entries.read_scale.Goals as goal

pub returns-in_err-check_payload : goal.returns-in_err-check_payload
returns-in_err-check_payload c =
    let a = c.args in
    let p = err_from_is_err_and c.from_residual.result c.from_residual.ensures.1 in
    let k = checked_err _ _ c.in_err-check_payload.ensures in
    rw (p.1, p.2) (payload_no_lem a.bytes.now a.e a.contexts.now a.component _ k.0 k.1)

pub read_scale-r-requires : goal.read_scale-r-requires
read_scale-r-requires c =
    let a = c.args in
    let s = checks_passed a.bytes.now a.e a.contexts.now a.component (checked_ok _ c.in_ok-check_payload.ensures) in
    ((subst (Goes a.bytes.now) (sym c.«open».ensures) s.goes, s.packed), s.component, c.decision_table-table.ensures)

-- what was read was read from the state opened
pub returns-in-Err : goal.returns-in-Err
returns-in-Err c =
    let a = c.args in
    let r = c.read_scale-r in
    let says = subst (λ (x : Interval). SaysScale r.result r.new.contexts (from false a.bytes.now (scale_s nothing a.component) x a.contexts.now)) c.«open».ensures r.ensures in
    payload_refused a.bytes.now a.e a.contexts.now a.component (checked_ok _ c.in_ok-check_payload.ensures) r.result r.new.contexts says
    _ c.in-Err.is

pub settle-state-requires : goal.settle-state-requires
settle-state-requires c =
    let a = c.args in
    (checks_passed a.bytes.now a.e a.contexts.now a.component (checked_ok _ c.in_ok-check_payload.ensures)).short

pub returns-in-Ok : goal.returns-in-Ok
returns-in-Ok c =
    let a = c.args in
    let r = c.read_scale-r in
    let says = subst (λ (x : Interval). SaysScale r.result r.new.contexts (from false a.bytes.now (scale_s nothing a.component) x a.contexts.now)) c.«open».ensures r.ensures in
    payload_got a.bytes.now a.e a.contexts.now a.component (checked_ok _ c.in_ok-check_payload.ensures) r.result r.new.contexts says
    _ c.in-Ok.is c.settle-state.result c.settle-state.ensures

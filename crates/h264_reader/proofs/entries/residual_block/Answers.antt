use Rattle.h264_block.specs.BlockAgree.{SaysInto}
use Rattle.bins.specs.Interval.{Goes}
use Rattle.bins.specs.declared.state.Interval.{Interval}
use mathlib.Core.Bool.{false}
use mathlib.Core.Path.{sym, subst, ◌∙◌}
use Rattle.std.proofs.lemmas.Result.{err_from_is_err_and}
use Rattle.cabac.specs.NumberLaws.{checked_ok, checked_err}
use Rattle.h264_reader.specs.EntriesLaws.{payload_no_lem, checks_passed, payload_refused, payload_got}
use Rattle.h264_reader.proofs.entries.residual_block.Goals as goal

pub returns-in_err-check_payload : goal.returns-in_err-check_payload
returns-in_err-check_payload c =
    let a = c.args in
    let p = err_from_is_err_and c.from_residual.result c.from_residual.ensures.1 in
    let k = checked_err _ _ c.in_err-check_payload.ensures in
    rw (p.1, p.2) (payload_no_lem a.bytes.now a.e a.contexts.now a.block.now _ k.0 k.1)

pub read_into-requires : goal.read_into-requires
read_into-requires c =
    let a = c.args in
    let s = checks_passed a.bytes.now a.e a.contexts.now a.block.now (checked_ok _ c.in_ok-check_payload.ensures) in
    ((subst (Goes a.bytes.now) (sym c.«open».ensures) s.goes, s.packed), s.room)

pub returns-in-Err : goal.returns-in-Err
returns-in-Err c =
    let a = c.args in
    let s = subst (λ (x : Interval). SaysInto c.read_into.result false a.bytes.now x a.contexts.now c.read_into.new.contexts a.block.now c.read_into.new.block)
    c.«open».ensures c.read_into.ensures in
    payload_refused a.bytes.now a.e a.contexts.now a.block.now (checked_ok _ c.in_ok-check_payload.ensures) c.read_into.result c.read_into.new.contexts
    c.read_into.new.block s _ c.in-Err.is

pub settle-requires : goal.settle-requires
settle-requires c =
    let a = c.args in
    (checks_passed a.bytes.now a.e a.contexts.now a.block.now (checked_ok _ c.in_ok-check_payload.ensures)).short

pub returns-in-Ok : goal.returns-in-Ok
returns-in-Ok c =
    let a = c.args in
    let s = subst (λ (x : Interval). SaysInto c.read_into.result false a.bytes.now x a.contexts.now c.read_into.new.contexts a.block.now c.read_into.new.block)
    c.«open».ensures c.read_into.ensures in
    payload_got a.bytes.now a.e a.contexts.now a.block.now (checked_ok _ c.in_ok-check_payload.ensures) c.read_into.result c.read_into.new.contexts
    c.read_into.new.block s _ _ c.in-Ok.is c.settle.result c.settle.ensures

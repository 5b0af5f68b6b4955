use mathlib.Core.Path.{sym, subst}
use mathlib.Core.Bool.{false}
use Rattle.bins.specs.declared.state.Interval.{Interval}
use Rattle.bins.specs.Interval.{Goes}
use Rattle.hevc_read_into.specs.IntoAgree.{SaysInto}
use Rattle.hevc_reader.specs.EntriesLaws.{checks_passed, payload_refused, payload_got}
use Rattle.hevc_reader.proofs.entries.read_checked.Goals as goal

pub read_into-requires : goal.read_into-requires
read_into-requires c =
    let a = c.args in
    let passed0 = c.requires.1 in
    let s = checks_passed a.bytes.now a.e a.contexts.now a.stats.now a.p a.block.now passed0 in
    ((subst (Goes a.bytes.now) (sym c.«open».ensures) s.goes, s.packed), c.requires.0, s.accepted, s.room, s.statistics)

pub returns-in-Err : goal.returns-in-Err
returns-in-Err c =
    let a = c.args in
    let passed0 = c.requires.1 in
    let passed1 = passed0 in
    let into1 = subst (λ (x : Interval). SaysInto a.p false a.bytes.now x a.contexts.now a.stats.now a.block.now c.read_into.result c.read_into.new.contexts c.read_into.new.stats c.read_into.new.block) c.«open».ensures c.read_into.ensures in
    payload_refused a.bytes.now a.e a.contexts.now a.stats.now a.p a.block.now passed1 c.read_into.result c.read_into.new.contexts c.read_into.new.stats c.read_into.new.block into1
    _ c.in-Err.is

pub settle-state-requires : goal.settle-state-requires
settle-state-requires c =
    let a = c.args in
    let passed0 = c.requires.1 in
    let passed1 = passed0 in
    (checks_passed a.bytes.now a.e a.contexts.now a.stats.now a.p a.block.now passed1).short

pub returns-in-Ok : goal.returns-in-Ok
returns-in-Ok c =
    let a = c.args in
    let passed0 = c.requires.1 in
    let passed1 = passed0 in
    let into1 = subst (λ (x : Interval). SaysInto a.p false a.bytes.now x a.contexts.now a.stats.now a.block.now c.read_into.result c.read_into.new.contexts c.read_into.new.stats c.read_into.new.block) c.«open».ensures c.read_into.ensures in
    payload_got a.bytes.now a.e a.contexts.now a.stats.now a.p a.block.now passed1 c.read_into.result c.read_into.new.contexts c.read_into.new.stats c.read_into.new.block into1
    _ _ c.in-Ok.is c.settle-state.result c.settle-state.ensures

use mathlib.Core.Path.{◌≡◌, sym, ap, subst, ◌∙◌}
use mathlib.Core.Bool.{false}
use Rattle.bins.specs.declared.state.Engine.{Engine}
use Rattle.bins.specs.declared.state.Interval.{Interval}
use Rattle.bins.specs.EngineRuns.{state_of}
use Rattle.bins.specs.Interval.{Goes, settled}
use Rattle.hevc_residual.specs.Residual.{residual}
use Rattle.hevc_elements.specs.Agree.{from}
use Rattle.hevc_residual.specs.Answers.{payload_checks}
use Rattle.hevc_reader.specs.EntriesLaws.{checks_passed}
use Rattle.hevc_reached.specs.ReadingLaws.{reached_no, reached_end}
use Rattle.hevc_reached.proofs.entries.reached.Goals as goal

pub returns-then-n-ne0 : goal.returns-then-n-ne0
returns-then-n-ne0 c =
    let a = c.args in
    reached_no a.bytes.now a.e a.contexts.now a.stats.now a.p a.block.now c.payload_checks-n.result c.payload_checks-n.ensures c.if-n-ne0.true

pub read_to_end-x-requires : goal.read_to_end-x-requires
read_to_end-x-requires c =
    let a = c.args in
    let passed0 = sym c.if-n-ne0.false ∙ c.payload_checks-n.ensures in
    let s = checks_passed a.bytes.now a.e a.contexts.now a.stats.now a.p a.block.now passed0 in
    ((subst (Goes a.bytes.now) (sym c.«open».ensures) s.goes, s.packed), s.accepted, s.statistics)

pub settle-state-requires : goal.settle-state-requires
settle-state-requires c =
    let a = c.args in
    let passed0 = sym c.if-n-ne0.false ∙ c.payload_checks-n.ensures in
    (checks_passed a.bytes.now a.e a.contexts.now a.stats.now a.p a.block.now passed0).short

pub settle-fresh-requires : goal.settle-fresh-requires
settle-fresh-requires c =
    let a = c.args in
    let passed0 = sym c.if-n-ne0.false ∙ c.payload_checks-n.ensures in
    (checks_passed a.bytes.now a.e a.contexts.now a.stats.now a.p a.block.now passed0).short

pub returns : goal.returns
returns c =
    let a = c.args in
    let passed0 = sym c.if-n-ne0.false ∙ c.payload_checks-n.ensures in
    reached_end a.bytes.now a.e a.contexts.now a.stats.now a.p a.block.now c.read_to_end-x.result
    (c.read_to_end-x.ensures ∙ ap (λ (x : Interval). (state_of (from false a.bytes.now (residual a.p a.stats.now) x a.contexts.now)).interval) c.«open».ensures)
    passed0 c.settle-state.result c.settle-fresh.result c.settle-state.ensures
    (c.settle-fresh.ensures ∙ ap (λ (x : Engine). settled a.bytes.now x c.read_to_end-x.result) c.unmarked.ensures)

use mathlib.Core.Path.{◌≡◌, sym, ◌∙◌}
use Rattle.cabac.specs.Numbers.{payload_refusal}
use Rattle.cabac.specs.NumberLaws.{payload_passed}
use Rattle.hevc_residual.specs.Answers.{payload_checks}
use Rattle.hevc_reader.specs.EntriesLaws.{checks_passed}
use Rattle.hevc_differ.proofs.JudgementLaws.{all_past, all_place, judged_unread, judged_unreadable, judged_past, judged_place, place_here, place_never}
use Rattle.hevc_differ.proofs.entries.judge.Goals as goal

pub returns-then-n-ne0 : goal.returns-then-n-ne0
returns-then-n-ne0 c =
    let a = c.args in
    judged_unread a.first.now a.second.now a.e a.contexts.now a.stats.now a.p a.block.now c.payload_checks-n.result c.payload_checks-n.ensures c.if-n-ne0.true

pub returns-then-m-ne0 : goal.returns-then-m-ne0
returns-then-m-ne0 c =
    let a = c.args in
    judged_unreadable a.first.now a.second.now a.e a.contexts.now a.stats.now a.p a.block.now
    (sym c.if-n-ne0.false ∙ c.payload_checks-n.ensures) c.payload_refusal-m.result c.payload_refusal-m.ensures c.if-m-ne0.true

pub returns-then-r-ne0 : goal.returns-then-r-ne0
returns-then-r-ne0 c =
    let a = c.args in
    let passed = sym c.if-n-ne0.false ∙ c.payload_checks-n.ensures in
    let second = sym c.if-m-ne0.false ∙ c.payload_refusal-m.ensures in
    judged_past a.first.now a.second.now a.e a.contexts.now a.stats.now a.p a.block.now passed second c.reached-r.result.past
    (all_past a.first.now a.second.now a.e a.contexts.now a.stats.now a.p a.block.now c.reached-r.result c.reached-r.ensures) c.if-r-ne0.true

pub first_difference-d-requires : goal.first_difference-d-requires
first_difference-d-requires c =
    let a = c.args in
    let passed = sym c.if-n-ne0.false ∙ c.payload_checks-n.ensures in
    let second = sym c.if-m-ne0.false ∙ c.payload_refusal-m.ensures in (
      (checks_passed a.first.now a.e a.contexts.now a.stats.now a.p a.block.now passed).short,
      payload_passed a.second.now second,
    )

pub returns-then-d-place : goal.returns-then-d-place
returns-then-d-place c =
    let a = c.args in
    let passed = sym c.if-n-ne0.false ∙ c.payload_checks-n.ensures in
    let second = sym c.if-m-ne0.false ∙ c.payload_refusal-m.ensures in
    judged_place a.first.now a.second.now a.e a.contexts.now a.stats.now a.p a.block.now passed second
    (sym c.if-r-ne0.false ∙ all_past a.first.now a.second.now a.e a.contexts.now a.stats.now a.p a.block.now c.reached-r.result c.reached-r.ensures)
    c.first_difference-d.result c.reached-r.result.state.position.0 c.first_difference-d.ensures
    (all_place a.first.now a.second.now a.e a.contexts.now a.stats.now a.p a.block.now c.reached-r.result c.reached-r.ensures)
    _ (place_here c.first_difference-d.result c.reached-r.result.state.position.0 c.if-d-place.true)

pub returns : goal.returns
returns c =
    let a = c.args in
    let passed = sym c.if-n-ne0.false ∙ c.payload_checks-n.ensures in
    let second = sym c.if-m-ne0.false ∙ c.payload_refusal-m.ensures in
    judged_place a.first.now a.second.now a.e a.contexts.now a.stats.now a.p a.block.now passed second
    (sym c.if-r-ne0.false ∙ all_past a.first.now a.second.now a.e a.contexts.now a.stats.now a.p a.block.now c.reached-r.result c.reached-r.ensures)
    c.first_difference-d.result c.reached-r.result.state.position.0 c.first_difference-d.ensures
    (all_place a.first.now a.second.now a.e a.contexts.now a.stats.now a.p a.block.now c.reached-r.result c.reached-r.ensures)
    _ (place_never c.first_difference-d.result c.reached-r.result.state.position.0 c.if-d-place.false)

use mathlib.Core.Path.{◌≡◌, sym, ◌∙◌}
use native.Mathlib.Omega.{arith}
use Rattle.figures.specs.Entries.{place_refusal}
use Rattle.figures.specs.Agree.{held}
use Rattle.figures.specs.OutLaws.{place_in, at_refused, at_done}
use Rattle.figures_read.proofs.out.at_place.Goals as goal

pub offset_bounds-blocks-place : goal.offset_bounds-blocks-place
offset_bounds-blocks-place c =
    let a = c.args in
    let passed = sym c.if-n-ne0.false ∙ c.place_refusal-n.ensures in
    let h = place_in a.totals a.place passed in omega arith

pub bounds-blocks-place : goal.bounds-blocks-place
bounds-blocks-place c =
    let a = c.args in
    let passed = sym c.if-n-ne0.false ∙ c.place_refusal-n.ensures in
    let h = place_in a.totals a.place passed in omega arith

pub offset_bounds-greatests-place : goal.offset_bounds-greatests-place
offset_bounds-greatests-place c =
    let a = c.args in
    let passed = sym c.if-n-ne0.false ∙ c.place_refusal-n.ensures in
    let h = place_in a.totals a.place passed in omega arith

pub bounds-greatests-place : goal.bounds-greatests-place
bounds-greatests-place c =
    let a = c.args in
    let passed = sym c.if-n-ne0.false ∙ c.place_refusal-n.ensures in
    let h = place_in a.totals a.place passed in omega arith

pub offset_bounds-sums-place : goal.offset_bounds-sums-place
offset_bounds-sums-place c =
    let a = c.args in
    let passed = sym c.if-n-ne0.false ∙ c.place_refusal-n.ensures in
    let h = place_in a.totals a.place passed in omega arith

pub bounds-sums-place : goal.bounds-sums-place
bounds-sums-place c =
    let a = c.args in
    let passed = sym c.if-n-ne0.false ∙ c.place_refusal-n.ensures in
    let h = place_in a.totals a.place passed in omega arith

pub returns : goal.returns
returns c =
    let a = c.args in
    let passed = sym c.if-n-ne0.false ∙ c.place_refusal-n.ensures in
    λ k. at_done (held a.totals a.blocks.now a.sums.now a.greatests.now k) a.place passed

pub returns-then-n-ne0 : goal.returns-then-n-ne0
returns-then-n-ne0 c =
    let a = c.args in
    λ k. at_refused (held a.totals a.blocks.now a.sums.now a.greatests.now k) a.place c.place_refusal-n.result c.place_refusal-n.ensures c.if-n-ne0.true

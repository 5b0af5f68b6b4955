use mathlib.Core.Path.{sym, ◌∙◌}
use native.Mathlib.Omega.{arith}
use Rattle.figures.specs.CodeLaws.{merge_passed, area_few, merge_refused, merge_done}
use Rattle.figures_merge.proofs.merge.merge.Goals as goal

pub returns-then-number-ne0 : goal.returns-then-number-ne0
returns-then-number-ne0 c =
    let a = c.args in
    merge_refused a.totals a.other a.blocks.now a.sums.now a.greatests.now a.tallies.now a.b.now a.s.now a.g.now a.k.now
    c.merge_refusal-number.result c.merge_refusal-number.ensures c.if-number-ne0.true

pub area_of-requires : goal.area_of-requires
area_of-requires c =
    let a = c.args in
    let z = sym c.if-number-ne0.false ∙ c.merge_refusal-number.ensures in
    let p = merge_passed a.totals a.other z in
    (p.least, p.most)

pub join_places-requires : goal.join_places-requires
join_places-requires c =
    let a = c.args in
    let z = sym c.if-number-ne0.false ∙ c.merge_refusal-number.ensures in
    let p = merge_passed a.totals a.other z in
    omega (arith, c.area_of.ensures, area_few _ p.most)

pub overflow_add-after : goal.overflow_add-after
overflow_add-after c =
    let a = c.args in
    let z = sym c.if-number-ne0.false ∙ c.merge_refusal-number.ensures in
    let p = merge_passed a.totals a.other z in
    omega (arith, p.few)

pub returns : goal.returns
returns c =
    let a = c.args in
    let z = sym c.if-number-ne0.false ∙ c.merge_refusal-number.ensures in
    let p = merge_passed a.totals a.other z in
    merge_done a.totals a.other a.blocks.now a.sums.now a.greatests.now a.tallies.now a.b.now a.s.now a.g.now a.k.now z
    c.area_of.result c.area_of.ensures c.join_places.new.blocks c.join_places.new.sums c.join_places.new.greatests c.join_tallies.new.tallies
    c.capped64.result c.join_places.ensures.0 c.join_places.ensures.1 c.join_places.ensures.2 c.join_tallies.ensures c.capped64.ensures

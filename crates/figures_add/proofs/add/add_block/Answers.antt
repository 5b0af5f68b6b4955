use mathlib.Core.Path.{sym, ◌∙◌}
use native.Mathlib.Omega.{arith}
use Rattle.figures.specs.CodeLaws.{block_passed, area_few, add_refused, add_done}
use Rattle.figures_add.proofs.add.add_block.Goals as goal

pub returns-then-number-ne0 : goal.returns-then-number-ne0
returns-then-number-ne0 c =
    let a = c.args in
    add_refused a.totals a.blocks.now a.sums.now a.greatests.now a.size a.levels.now a.past c.block_refusal-number.result
    c.block_refusal-number.ensures c.if-number-ne0.true

pub area_of-requires : goal.area_of-requires
area_of-requires c =
    let a = c.args in
    let z = sym c.if-number-ne0.false ∙ c.block_refusal-number.ensures in
    let p = block_passed a.totals a.size a.levels.now z in
    (p.least, p.most)

pub add_levels-requires : goal.add_levels-requires
add_levels-requires c =
    let a = c.args in
    let z = sym c.if-number-ne0.false ∙ c.block_refusal-number.ensures in
    let p = block_passed a.totals a.size a.levels.now z in
    (omega (arith, c.area_of.ensures, p.long), omega (arith, c.area_of.ensures, area_few _ p.most))

pub overflow_add-after : goal.overflow_add-after
overflow_add-after c =
    let a = c.args in
    let z = sym c.if-number-ne0.false ∙ c.block_refusal-number.ensures in
    let p = block_passed a.totals a.size a.levels.now z in
    omega (arith, p.few)

pub returns : goal.returns
returns c =
    let a = c.args in
    let z = sym c.if-number-ne0.false ∙ c.block_refusal-number.ensures in
    let p = block_passed a.totals a.size a.levels.now z in
    add_done a.totals a.blocks.now a.sums.now a.greatests.now a.size a.levels.now a.past z c.area_of.result
    c.area_of.ensures c.add_levels.new.blocks c.add_levels.new.sums c.add_levels.new.greatests c.capped64.result c.wide.result c.add_levels.ensures.0 c.add_levels.ensures.1
    c.add_levels.ensures.2 c.wide.ensures.0 c.capped64.ensures

use Rattle.morning_add.specs.CodeLaws.{to_full, to_more}
use Rattle.morning_add.proofs.adding.add_to.Goals as goal

pub returns-then-a-eq23 : goal.returns-then-a-eq23
returns-then-a-eq23 c =
    let a = c.args in
    to_full a.one a.blocks.now a.sums.now a.greatests.now _ _ _ a.log2 a.past a.levels.now _ c.add_block-a.ensures c.if-a-eq23.true

pub returns : goal.returns
returns c =
    let a = c.args in
    to_more a.one a.blocks.now a.sums.now a.greatests.now _ _ _ a.log2 a.past a.levels.now _ c.add_block-a.ensures c.if-a-eq23.false

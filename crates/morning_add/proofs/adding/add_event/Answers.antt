use Rattle.morning_add.specs.CodeLaws.{four_block, four_refusal, event_block, event_no}
use Rattle.morning_add.proofs.adding.add_event.Goals as goal

pub returns-in-Ok : goal.returns-in-Ok
returns-in-Ok c =
    let a = c.args in
    four_block a.z a.blocks4.now a.sums4.now a.greatests4.now a.blocks8.now a.sums8.now a.greatests8.now a.blocks16.now a.sums16.now a.greatests16.now a.blocks32.now a.sums32.now a.greatests32.now a.tallies.now _ _ _ _ _ _ _ _ _ _ _ _ _ _ _ _ _
    c.add_to-a.ensures c.add_to-b.ensures c.add_to-c.ensures c.add_to-d.ensures _ (event_block _ _ a.levels.now a.e c.in-Ok.is)

pub returns-in-Err : goal.returns-in-Err
returns-in-Err c =
    let a = c.args in
    four_refusal a.z a.blocks4.now a.sums4.now a.greatests4.now a.blocks8.now a.sums8.now a.greatests8.now a.blocks16.now a.sums16.now a.greatests16.now a.blocks32.now a.sums32.now a.greatests32.now a.tallies.now _ _ _ _ c.add_refusal.ensures _ (event_no _ a.levels.now a.e c.in-Err.is)

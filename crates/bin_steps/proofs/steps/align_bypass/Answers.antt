use Rattle.bins.specs.SourceLaws.{readable_list, align_listed, align_refused, align_taken}
use Rattle.bin_steps.proofs.steps.align_bypass.Goals as goal

-- `align_bypass` meets its contract. Assumes nothing.
pub align-requires : goal.align-requires
align-requires c = let a = c.args in readable_list a.bytes.now a.x a.list c.if-list.true c.requires

pub returns-then-list : goal.returns-then-list
returns-then-list c = let a = c.args in align_listed a.bytes.now a.x a.list _ c.if-list.true c.align.ensures

pub returns-then-range-offset : goal.returns-then-range-offset
returns-then-range-offset c = let a = c.args in align_refused a.bytes.now a.x a.list c.if-list.false c.if-range-offset.true

pub returns : goal.returns
returns c = let a = c.args in align_taken a.bytes.now a.x a.list c.if-list.false c.if-range-offset.false

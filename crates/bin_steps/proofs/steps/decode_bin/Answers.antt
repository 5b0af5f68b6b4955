use Rattle.bins.specs.SourceLaws.{readable_list, readable_goes, bin_listed, bin_decided}
use Rattle.bin_steps.proofs.steps.decode_bin.Goals as goal

-- `decode_bin` meets its contract. Assumes nothing.
pub bin-requires : goal.bin-requires
bin-requires c = let a = c.args in let h = c.requires in (readable_list a.bytes.now a.x a.list c.if-list.true h.0, h.2)

pub returns-then-list : goal.returns-then-list
returns-then-list c = let a = c.args in bin_listed a.bytes.now a.x a.list a.number a.c.now _ c.if-list.true c.bin.ensures

pub decide-requires : goal.decide-requires
decide-requires c = let a = c.args in let h = c.requires in (readable_goes a.bytes.now a.x a.list c.if-list.false h.0, h.1, h.3)

pub returns : goal.returns
returns c = let a = c.args in bin_decided a.bytes.now a.x a.list a.number a.c.now _ _ c.if-list.false c.decide.ensures.0 c.decide.ensures.1

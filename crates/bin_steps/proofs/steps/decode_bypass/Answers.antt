use native.Mathlib.Omega.{arith}
use Rattle.bins.specs.SourceLaws.{readable_list, readable_goes, bypass_listed, bypass_taken}
use Rattle.bin_steps.proofs.steps.decode_bypass.Goals as goal

-- `decode_bypass` meets its contract. Assumes nothing.
pub bin-requires : goal.bin-requires
bin-requires c = let a = c.args in (readable_list a.bytes.now a.x a.list c.if-list.true c.requires, omega arith)

pub returns-then-list : goal.returns-then-list
returns-then-list c = let a = c.args in bypass_listed a.bytes.now a.x a.list _ c.if-list.true c.bin.ensures

pub bypass_one-requires : goal.bypass_one-requires
bypass_one-requires c = let a = c.args in readable_goes a.bytes.now a.x a.list c.if-list.false c.requires

pub returns : goal.returns
returns c = let a = c.args in bypass_taken a.bytes.now a.x a.list _ c.if-list.false c.requires c.bypass_one.ensures

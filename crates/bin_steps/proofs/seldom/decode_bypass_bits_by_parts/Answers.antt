use Rattle.bins.specs.declared.state.Interval.{Interval}
use Rattle.bins.specs.SourceLaws.{readable_list, readable_goes, bits_listed, bits_taken}
use Rattle.bin_steps.proofs.seldom.decode_bypass_bits_by_parts.Goals as goal

-- `decode_bypass_bits_by_parts` meets its contract. Assumes nothing.
pub bypass_bits-requires : goal.bypass_bits-requires
bypass_bits-requires c = let a = c.args in let x : Interval = record { range = a.range; offset = a.offset; position = a.position } in let h = c.requires in (readable_list a.bytes.now x a.list c.if-list.true h.0, h.1)

pub returns-then-list : goal.returns-then-list
returns-then-list c = let a = c.args in let x : Interval = record { range = a.range; offset = a.offset; position = a.position } in bits_listed a.bytes.now x a.list a.n _ c.if-list.true c.bypass_bits.ensures

pub bypass_bits-requires-2 : goal.bypass_bits-requires-2
bypass_bits-requires-2 c = let a = c.args in let x : Interval = record { range = a.range; offset = a.offset; position = a.position } in let h = c.requires in (readable_goes a.bytes.now x a.list c.if-list.false h.0, h.1)

pub returns : goal.returns
returns c = let a = c.args in let x : Interval = record { range = a.range; offset = a.offset; position = a.position } in bits_taken a.bytes.now x a.list a.n _ c.if-list.false c.bypass_bits-2.ensures

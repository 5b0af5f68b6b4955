use Rattle.bins.specs.SourceLaws.{no_bits}
use Rattle.bin_steps.proofs.seldom.decode_bypass_bits_if_any.Goals as goal

-- `decode_bypass_bits_if_any` meets its contract. Assumes nothing.
pub returns-then-n-eq0 : goal.returns-then-n-eq0
returns-then-n-eq0 c = let a = c.args in no_bits a.bytes.now a.x a.list a.n c.if-n-eq0.true c.requires.0

pub decode_bypass_bits-requires : goal.decode_bypass_bits-requires
decode_bypass_bits-requires c = c.requires

use mathlib.Core.Path.{◌∙◌}
use Rattle.bins.specs.FetchLaws.{turned_bits}
use Rattle.payload_bits.proofs.bits.word_at.Goals as goal

pub returns : goal.returns
returns c = let a = c.args in c.turned.ensures ∙ turned_bits a.bytes.now a.i _ c.low_first.ensures

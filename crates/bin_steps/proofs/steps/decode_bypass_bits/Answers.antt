use Prim.Native.Nat.{ℕ}
use mathlib.Core.Path.{ap, ◌∙◌}
use mathlib.Core.List.{List}
use Rattle.bins.specs.Sources.{step_of_bits, bits_from}
use Rattle.bins.specs.FetchLaws.{lent_whole}
use Rattle.bins.specs.SourceLaws.{readable_goes, bits_taken}
use Rattle.bin_steps.proofs.steps.decode_bypass_bits.Goals as goal

-- `decode_bypass_bits` meets its contract. Assumes nothing.
pub decode_bypass_bits_by_parts-requires : goal.decode_bypass_bits_by_parts-requires
decode_bypass_bits_by_parts-requires c = rw (lent_whole c.args.bytes.now) (c.requires.0, c.requires.1)

pub returns : goal.returns
returns c =
    let a = c.args in
    c.decode_bypass_bits_by_parts.ensures ∙ ap (λ (l : List ℕ). step_of_bits (bits_from a.list l a.n a.x)) (lent_whole a.bytes.now)

pub bypass_few-requires : goal.bypass_few-requires
bypass_few-requires c = let a = c.args in (readable_goes a.bytes.now a.x a.list c.if-not-list.true c.requires.0, c.if-n-le16.true)

pub returns-then-n-le16 : goal.returns-then-n-le16
returns-then-n-le16 c = let a = c.args in bits_taken a.bytes.now a.x a.list a.n _ c.if-not-list.true c.bypass_few.ensures

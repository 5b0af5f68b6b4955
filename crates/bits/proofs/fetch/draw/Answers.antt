use native.Mathlib.Omega.{arith}
use Prim.Native.Nat.{ℕ}
use mathlib.Core.Path.{ap, ◌∙◌}
use mathlib.Core.List.{List}
use Rattle.bins.specs.Bits.{bits}
use Rattle.bins.specs.BitLaws.{bits_below}
use Rattle.bins.specs.FetchLaws.{drawn, drawn_word, drawn_parts, lent_whole}
use Rattle.bits.proofs.fetch.draw.Goals as goal

pub overflow_cast-result-then-i-bytes-2 : goal.overflow_cast-result-then-i-bytes-2
overflow_cast-result-then-i-bytes-2 c = let a = c.args in let h = c.requires in omega (arith, drawn a.bytes.now a.at.0 _ _ a.c c.byte_of-byte.ensures c.word_at.ensures h.2, bits_below a.bytes.now a.at.0 a.c 16 h.2)

pub returns-then-i-bytes : goal.returns-then-i-bytes
returns-then-i-bytes c = let a = c.args in let h = c.requires in drawn_word a.bytes.now a.at.0 _ _ a.c c.byte_of-byte.ensures c.word_at.ensures h.2 (omega arith)

pub one_by_one-requires : goal.one_by_one-requires
one_by_one-requires c =
    let a = c.args in
    let h = c.requires in
    rw (lent_whole a.bytes.now) (h.0, h.1, omega arith)

pub returns : goal.returns
returns c =
    let a = c.args in
    drawn_parts a.bytes.now a.at.0 a.c _ _ _ (c.one_by_one.ensures ∙ ap (λ (l : List ℕ). bits l a.at.0 a.c) (lent_whole a.bytes.now)) c.cut-next.ensures c.beyond-past.ensures

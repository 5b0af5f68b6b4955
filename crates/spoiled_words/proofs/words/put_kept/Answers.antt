use native.Mathlib.Omega.{arith}
use lib.ListN.{take}
use Rattle.text_room.specs.Laws.{one_piece}
use Rattle.spoiled.specs.CodeLaws.{kept_none, kept_all}
use Rattle.spoiled_words.proofs.words.put_kept.Goals as goal

-- `put_kept` meets its contract. Assumes nothing.
pub returns-then-number-ne0 : goal.returns-then-number-ne0
returns-then-number-ne0 c =
    let a = c.args in
    (kept_none a.number a.part.now (take a.at a.book.now) c.if-number-ne0.true, omega arith)

pub returns : goal.returns
returns c =
    let a = c.args in
    let put = c.put.ensures in
    (one_piece _ (take a.at a.book.now) _ _ put.0 (kept_all a.number a.part.now c.if-number-ne0.false), omega arith)

use Rattle.spoiled.specs.CodeLaws.{words_dropped, words_kept, words_lowered}
use Rattle.spoiled.specs.Salvage.{kept_word, lowered_word, dropped_word}
use Rattle.text_room.specs.Laws.{one_piece, two_pieces}
use Rattle.text_room.specs.Decimal.{decimal}
use lib.ListN.{take}
use native.Mathlib.Omega.{arith}
use Rattle.spoiled_words.proofs.words.put_fate.Goals as goal

pub returns-then-number-ne0 : goal.returns-then-number-ne0
returns-then-number-ne0 c =
    let a = c.args in
    let t = take a.at a.report.now in
    let w = two_pieces _ _ t dropped_word (decimal a.number) c.put_decimal.ensures.0 c.put-a.ensures.0 in
    (one_piece _ t _ _ w (words_dropped a.number a.turned c.if-number-ne0.true), omega arith)

pub returns-then-turned-eq0 : goal.returns-then-turned-eq0
returns-then-turned-eq0 c =
    let a = c.args in
    (one_piece _ (take a.at a.report.now) kept_word _ c.put.ensures.0 (words_kept a.number a.turned c.if-number-ne0.false c.if-turned-eq0.true), omega arith)

pub returns : goal.returns
returns c =
    let a = c.args in
    let t = take a.at a.report.now in
    let w = two_pieces _ _ t lowered_word (decimal a.turned) c.put_decimal-2.ensures.0 c.put-c.ensures.0 in
    (one_piece _ t _ _ w (words_lowered a.number a.turned c.if-number-ne0.false c.if-turned-eq0.false), omega arith)

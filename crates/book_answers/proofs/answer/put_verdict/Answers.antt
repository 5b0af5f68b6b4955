use native.Mathlib.Omega.{arith}
use lib.ListN.{take}
use Rattle.text_room.specs.Laws.{one_piece}
use Rattle.book_answers.specs.CodeLaws.{ok_words_lem, no_words_lem}
use Rattle.book_answers.proofs.answer.put_verdict.Goals as goal

pub returns-in-Ok : goal.returns-in-Ok
returns-in-Ok c =
    let a = c.args in
    (one_piece _ (take a.at a.out.now) _ _ c.put_ok.ensures.0 (ok_words_lem a.v _ _ c.in-Ok.is), omega arith)

pub returns-in-Err : goal.returns-in-Err
returns-in-Err c =
    let a = c.args in
    (one_piece _ (take a.at a.out.now) _ _ c.put_no.ensures.0 (no_words_lem a.v _ c.in-Err.is), omega arith)

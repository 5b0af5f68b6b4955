use native.Mathlib.Omega.{arith}
use lib.ListN.{take}
use Rattle.text_room.specs.Laws.{one_piece, two_pieces}
use Rattle.text_room.specs.Decimal.{decimal}
use Rattle.book_answers.specs.Answers.{no_word}
use Rattle.book_answers.specs.CodeLaws.{no_is}
use Rattle.book_answers.proofs.answer.put_no.Goals as goal

pub returns : goal.returns
returns c =
    let a = c.args in
    let t = take a.at a.out.now in
    let whole = two_pieces _ _ t no_word (decimal a.number) c.put_decimal.ensures.0 c.put-a.ensures.0 in
    (one_piece _ t _ _ whole (no_is a.number), omega arith)

use native.Mathlib.Omega.{arith}
use mathlib.Core.List.{[], ◌∷◌}
use lib.ListN.{take}
use Rattle.text_room.specs.Laws.{one_piece, four_pieces}
use Rattle.text_room.specs.Decimal.{decimal}
use Rattle.book_answers.specs.Answers.{ok_word}
use Rattle.book_answers.specs.CodeLaws.{ok_is}
use Rattle.book_answers.proofs.answer.put_ok.Goals as goal

pub returns : goal.returns
returns c =
    let a = c.args in
    let t = take a.at a.out.now in
    let whole = four_pieces _ _ _ _ t ok_word (decimal a.greatest) (32 ∷ []) (decimal a.past) c.put_decimal.ensures.0 c.put-c.ensures.0 c.put_decimal-b.ensures.0 c.put-a.ensures.0 in
    (one_piece _ t _ _ whole (ok_is a.greatest a.past), omega arith)

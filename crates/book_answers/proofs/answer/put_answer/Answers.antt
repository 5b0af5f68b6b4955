use native.Mathlib.Omega.{arith}
use mathlib.Core.List.{[], ◌∷◌}
use lib.ListN.{take}
use Rattle.text_room.specs.Laws.{three_pieces}
use Rattle.text_room.specs.Decimal.{decimal}
use Rattle.book_answers.specs.Answers.{verdict_words}
use Rattle.book_answers.proofs.answer.put_answer.Goals as goal

pub returns : goal.returns
returns c =
    let a = c.args in
    (three_pieces _ _ _ (take a.at a.out.now) (decimal a.n) (verdict_words a.v) (10 ∷ []) c.put.ensures.0 c.put_verdict-b.ensures.0 c.put_decimal-a.ensures.0, omega arith)

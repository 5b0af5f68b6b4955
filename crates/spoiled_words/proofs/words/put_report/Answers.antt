use Rattle.spoiled.specs.Salvage.{fate_words}
use Rattle.text_room.specs.Laws.{three_pieces}
use Rattle.text_room.specs.Decimal.{decimal}
use lib.ListN.{take}
use mathlib.Core.List.{[], ◌∷◌}
use native.Mathlib.Omega.{arith}
use Rattle.spoiled_words.proofs.words.put_report.Goals as goal

pub returns : goal.returns
returns c =
    let a = c.args in
    (three_pieces _ _ _ (take a.at a.report.now) (decimal a.n) (fate_words a.f.number a.f.turned) (10 ∷ []) c.put.ensures.0 c.put_fate-b.ensures.0 c.put_decimal-a.ensures.0, omega arith)

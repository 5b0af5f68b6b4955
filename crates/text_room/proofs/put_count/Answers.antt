use native.Mathlib.Omega.{arith}
use lib.ListN.{take}
use Rattle.text_room.specs.Decimal.{decimal}
use Rattle.text_room.specs.Laws.{two_pieces}
use Rattle.text_room.proofs.put_count.Goals as goal

pub returns : goal.returns
returns c =
    let a = c.args in
    (two_pieces _ _ (take a.at a.out.now) (decimal a.n) _ c.put.ensures.0 c.put_decimal-a.ensures.0, omega arith)

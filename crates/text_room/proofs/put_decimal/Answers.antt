use native.Mathlib.Omega.{arith}
use lib.ListN.{take}
use Rattle.text_room.specs.Laws.{decimal_front, decimal_short, one_piece}
use Rattle.text_room.proofs.put_decimal.Goals as goal

pub put-requires : goal.put-requires
put-requires c =
    let a = c.args in
    omega (arith, decimal_short c.decimal-k.result a.n (omega arith) c.decimal-k.ensures.len, c.decimal-k.ensures.in_bounds)

pub returns : goal.returns
returns c =
    let a = c.args in (
      one_piece _ (take a.at a.out.now) _ _ c.put.ensures.0 (decimal_front c.decimal-k.result a.n _ (omega arith) c.decimal-k.ensures.len c.decimal-k.ensures.digits),
      omega (arith, c.put.ensures.1, c.decimal-k.ensures.in_bounds, decimal_short c.decimal-k.result a.n (omega arith) c.decimal-k.ensures.len),
    )

use Prim.Native.Nat.{◌/◌, ◌%◌}
use mathlib.Core.List.{[], ◌∷◌}
use lib.ListN.{length, take}
use Rattle.text_room.specs.Laws.{four_pieces}
use Rattle.press_frame.specs.PressCode.{parts}
use Rattle.press_frame.proofs.press.put_frame.Goals as goal

pub returns : goal.returns
returns c =
    let a = c.args in
    let n = length a.payload.now in
    parts a.head.now a.values.now a.payload.now _
    (four_pieces _ _ _ _ (take 0 a.room.now) a.head.now (n / 256 ∷ n % 256 ∷ []) a.values.now a.payload.now
    c.put.ensures.0 c.put-c.ensures.0 c.put-b.ensures.0 c.put-a.ensures.0)

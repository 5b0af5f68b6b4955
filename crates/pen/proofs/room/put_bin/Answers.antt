use Prim.Native.Nat.{◌+◌, ◌*◌}
use mathlib.Core.Bool.{Bool, true, false}
use mathlib.Core.Path.{◌≡◌, refl, ap, ◌∙◌}
use mir.Val.{bool_byte}
use Rattle.bins.specs.Engine.{bit_no}
use Rattle.pen.specs.Sheet.{sheet, entered}
use Rattle.pen.proofs.room.put_bin.Goals as goal

-- a bin as a number
number_of : (b : Bool) → bool_byte b ≡ bit_no b
number_of true = refl
number_of false = refl

pub returns : goal.returns
returns c =
    let a = c.args in
    c.put_entry.ensures ∙ ap (λ x. entered (2 * a.number + x) (sheet a.room.now a.pen)) (c.from.ensures ∙ number_of a.bin)

use native.Mathlib.Omega.{arith}
use mathlib.Core.Path.{refl, sym, subst}
use Prim.Native.Nat.{◌-◌}
use Rattle.pen.specs.Sheet.{sheet}
use Rattle.pen_shapes.specs.ShapeLaws.{Bits, bits_begin, bits_more, bits_end}
use Rattle.pen_shapes.proofs.plain.put_bits.Goals as goal

pub loop-k-init : goal.loop-k-init
loop-k-init c = let a = c.args in bits_begin a.n a.v (sheet a.room.now a.pen) c.requires.1

pub overflow_shr-v : goal.overflow_shr-v
overflow_shr-v c = omega (arith, c.loop-k.invariant.few, c.requires.0)

pub loop-k-preserved : goal.loop-k-preserved
loop-k-preserved c =
    let a = c.args in
    subst (Bits a.n a.v (sheet a.room.now a.pen) (c.loop-k.k - 1)) (sym c.put_bypass-y.ensures)
    (bits_more a.n a.v (sheet a.room.now a.pen) c.loop-k.k (sheet c.loop-k.room c.loop-k.y) c.loop-k.invariant (c.loop-k.k - 1) _ (omega arith) refl)

pub shape_of-room : goal.shape_of-room
shape_of-room c = c.loop-k.invariant.long

pub returns : goal.returns
returns c =
    let a = c.args in
    λ w. bits_end a.n a.v (sheet a.room.now a.pen) c.loop-k.k (sheet c.loop-k.room c.loop-k.y) c.loop-k.invariant (omega arith) (λ x. a.v) w refl

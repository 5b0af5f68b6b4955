use native.Mathlib.Omega.{arith}
use mathlib.Core.Path.{sym, subst}
use Prim.Native.Nat.{ℕ, ◌+◌}
use Rattle.bins.specs.Syn.{done}
use Rattle.trees.specs.Counters.{ones_counter}
use lib.Dec.{ltb}
use Rattle.pen.specs.Sheet.{sheet, Wrote}
use Rattle.pen_shapes.specs.PlainLaws.{ones_p, counts_plain}
use Rattle.pen_shapes.specs.ShapeLaws.{ones_putter, Ones, ones_begin, ones_more, ones_zero, ones_most}
use Rattle.pen_shapes.proofs.plain.put_ones.Goals as goal

pub loop-g-init : goal.loop-g-init
loop-g-init c = let a = c.args in ones_begin (ones_counter {B = ℕ}) ones_putter a.n a.most (sheet a.room.now a.pen) c.requires

pub loop-g-preserved : goal.loop-g-preserved
loop-g-preserved c =
    let a = c.args in
    subst (Ones (ones_counter {B = ℕ}) ones_putter a.n a.most (sheet a.room.now a.pen) (c.loop-g._g + 1)) (sym c.put_bypass-y.ensures)
    (ones_more (ones_counter {B = ℕ}) ones_putter a.n a.most (sheet a.room.now a.pen) c.loop-g._g (sheet c.loop-g.room c.loop-g.y) c.loop-g.invariant (omega arith))

pub returns-then-n-most : goal.returns-then-n-most
returns-then-n-most c =
    λ w.
    let a = c.args in
    subst (Wrote (ones_p a.most a.n) (done a.n) w (sheet a.room.now a.pen)) (sym c.put_bypass.ensures)
    (ones_zero (ones_counter {B = ℕ}) ones_putter a.n a.most (sheet a.room.now a.pen) c.loop-g._g (sheet c.loop-g.room c.loop-g.y) c.loop-g.invariant
    (omega arith) c.if-n-most.true (λ g x. ltb g a.n) w (counts_plain a.n a.most w))

pub shape_of-room : goal.shape_of-room
shape_of-room c = c.loop-g.invariant.long

pub returns : goal.returns
returns c =
    λ w.
    let a = c.args in
    ones_most (ones_counter {B = ℕ}) ones_putter a.n a.most (sheet a.room.now a.pen) c.loop-g._g (sheet c.loop-g.room c.loop-g.y) c.loop-g.invariant (omega arith)
    c.if-n-most.false (λ g x. ltb g a.n) w (counts_plain a.n a.most w)

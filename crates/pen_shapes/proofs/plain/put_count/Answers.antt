use native.Mathlib.Omega.{arith}
use mathlib.Core.Path.{◌≡◌, refl, sym, ap, subst, ◌∙◌}
use Prim.Native.Nat.{ℕ, ◌+◌}
use mathlib.Core.Bool.{true, false}
use lib.Dec.{ltb}
use Rattle.bins.specs.Syn.{done}
use Rattle.bins.specs.Tags.{tag}
use Rattle.trees.specs.Shapes.{first_then}
use Rattle.trees.specs.ShapeLaws.{then_below, then_later}
use Rattle.trees.specs.Counters.{count_counter}
use Rattle.pen.specs.Sheet.{sheet, entered, Wrote}
use Rattle.pen_shapes.specs.PlainLaws.{count_p, counts_plain}
use Rattle.pen_shapes.specs.ShapeLaws.{count_putter, Ones, ones_begin, ones_more, ones_zero, ones_most}
use Rattle.pen_shapes.proofs.plain.put_count.Goals as goal

pub loop-g-init : goal.loop-g-init
loop-g-init c =
    let a = c.args in (
      ones_begin (count_counter {B = ℕ} (first_then a.first a.later)) (count_putter (first_then a.first a.later)) a.n a.most
          (sheet a.room.now a.pen) c.requires.2,
      refl,
    )

pub put_bin-y-requires : goal.put_bin-y-requires
put_bin-y-requires c =
    let a = c.args in
    omega (arith, then_below a.first a.later 32768 c.loop-g._g c.requires.0 c.requires.1, c.loop-g.invariant.1)

pub loop-g-preserved : goal.loop-g-preserved
loop-g-preserved c =
    let a = c.args in (
      subst (Ones (count_counter {B = ℕ} (first_then a.first a.later)) (count_putter (first_then a.first a.later)) a.n a.most
          (sheet a.room.now a.pen) (c.loop-g._g + 1)) (sym (c.put_bin-y.ensures ∙ ap (λ k. entered (tag k true) (sheet c.loop-g.room c.loop-g.y)) c.loop-g.invariant.1))
          (ones_more (count_counter {B = ℕ} (first_then a.first a.later)) (count_putter (first_then a.first a.later)) a.n a.most
          (sheet a.room.now a.pen) c.loop-g._g (sheet c.loop-g.room c.loop-g.y) c.loop-g.invariant.0 (omega arith)),
      then_later a.first a.later c.loop-g._g,
    )

pub put_bin-requires : goal.put_bin-requires
put_bin-requires c =
    let a = c.args in
    omega (arith, then_below a.first a.later 32768 c.loop-g._g c.requires.0 c.requires.1, c.loop-g.invariant.1)

pub returns-then-n-most : goal.returns-then-n-most
returns-then-n-most c =
    λ w.
    let a = c.args in
    let e : c.loop-g._g ≡ a.n = omega (arith, c.loop-g.invariant.0.few) in
    subst (Wrote (count_p (first_then a.first a.later) a.most a.n) (done a.n) w (sheet a.room.now a.pen))
    (sym (c.put_bin.ensures ∙ ap (λ k. entered (tag k false) (sheet c.loop-g.room c.loop-g.y)) (c.loop-g.invariant.1 ∙ ap (first_then a.first a.later) e)))
    (ones_zero (count_counter {B = ℕ} (first_then a.first a.later)) (count_putter (first_then a.first a.later)) a.n a.most
    (sheet a.room.now a.pen) c.loop-g._g (sheet c.loop-g.room c.loop-g.y) c.loop-g.invariant.0 (omega arith) c.if-n-most.true (λ g x. ltb g a.n) w
    (counts_plain a.n a.most w))

pub shape_of-room : goal.shape_of-room
shape_of-room c = c.loop-g.invariant.0.long

pub returns : goal.returns
returns c =
    λ w.
    let a = c.args in
    ones_most (count_counter {B = ℕ} (first_then a.first a.later)) (count_putter (first_then a.first a.later)) a.n a.most
    (sheet a.room.now a.pen) c.loop-g._g (sheet c.loop-g.room c.loop-g.y) c.loop-g.invariant.0 (omega arith) c.if-n-most.false (λ g x. ltb g a.n) w
    (counts_plain a.n a.most w)

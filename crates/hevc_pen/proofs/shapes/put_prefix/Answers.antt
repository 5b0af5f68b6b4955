use native.Mathlib.Omega.{arith}
use mathlib.Core.Path.{sym, subst}
use lib.Pow.{shr_le}
use Prim.Native.Nat.{◌+◌}
use Rattle.bins.specs.Syn.{done}
use Rattle.bins.specs.Readers.{prefix_s}
use Rattle.hevc_residual.specs.Wanted.{Wanted}
use Rattle.trees.specs.Counters.{prefix_counter}
use Rattle.pen.specs.Sheet.{sheet, Wrote}
use Rattle.pen_shapes.specs.ShapeLaws.{prefix_putter, Ones, ones_begin, ones_more, ones_zero, ones_most}
use Rattle.hevc_pen.proofs.shapes.put_prefix.Goals as goal

pub loop-g-init : goal.loop-g-init
loop-g-init c =
    let a = c.args in
    ones_begin (prefix_counter {B = Wanted} a.base a.shift) (prefix_putter a.base a.shift) a.n a.most (sheet a.room.now a.pen)
    c.requires.1

pub overflow_shr-g : goal.overflow_shr-g
overflow_shr-g c = omega (arith, c.requires.3)

pub overflow_cast-g : goal.overflow_cast-g
overflow_cast-g c = omega (arith, shr_le c.loop-g.g c.args.shift, c.requires.1, c.requires.2)

pub overflow_add-base : goal.overflow_add-base
overflow_add-base c = omega (arith, shr_le c.loop-g.g c.args.shift, c.requires.0, c.requires.1, c.requires.2)

pub put_bin-y-requires : goal.put_bin-y-requires
put_bin-y-requires c = omega (arith, shr_le c.loop-g.g c.args.shift, c.requires.0, c.requires.1)

pub loop-g-preserved : goal.loop-g-preserved
loop-g-preserved c =
    let a = c.args in
    subst (Ones (prefix_counter {B = Wanted} a.base a.shift) (prefix_putter a.base a.shift) a.n a.most (sheet a.room.now a.pen) (c.loop-g.g + 1))
    (sym c.put_bin-y.ensures)
    (ones_more (prefix_counter {B = Wanted} a.base a.shift) (prefix_putter a.base a.shift) a.n a.most (sheet a.room.now a.pen) c.loop-g.g
    (sheet c.loop-g.room c.loop-g.y) c.loop-g.invariant (omega arith))

pub overflow_shr-n : goal.overflow_shr-n
overflow_shr-n c = omega (arith, c.requires.3)

pub overflow_cast-n : goal.overflow_cast-n
overflow_cast-n c = omega (arith, shr_le c.args.n c.args.shift, c.requires.1, c.requires.2)

pub overflow_add-base-then-n-most : goal.overflow_add-base-then-n-most
overflow_add-base-then-n-most c = omega (arith, shr_le c.args.n c.args.shift, c.requires.0, c.requires.1, c.requires.2)

pub put_bin-requires : goal.put_bin-requires
put_bin-requires c = omega (arith, shr_le c.args.n c.args.shift, c.requires.0, c.requires.1)

pub returns-then-n-most : goal.returns-then-n-most
returns-then-n-most c =
    λ want w q.
    let a = c.args in
    subst (Wrote (prefix_s a.base a.shift a.most 0 want) (done a.n) w (sheet a.room.now a.pen)) (sym c.put_bin.ensures)
    (ones_zero (prefix_counter {B = Wanted} a.base a.shift) (prefix_putter a.base a.shift) a.n a.most (sheet a.room.now a.pen) c.loop-g.g
    (sheet c.loop-g.room c.loop-g.y) c.loop-g.invariant (omega arith) c.if-n-most.true want w q)

pub shape_of-room : goal.shape_of-room
shape_of-room c = c.loop-g.invariant.long

pub returns : goal.returns
returns c =
    let a = c.args in
    ones_most (prefix_counter {B = Wanted} a.base a.shift) (prefix_putter a.base a.shift) a.n a.most (sheet a.room.now a.pen) c.loop-g.g
    (sheet c.loop-g.room c.loop-g.y) c.loop-g.invariant (omega arith) c.if-n-most.false

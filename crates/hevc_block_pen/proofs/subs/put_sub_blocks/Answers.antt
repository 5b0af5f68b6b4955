use native.Mathlib.Omega.{arith}
use mathlib.Core.Path.{sym, ◌∙◌}
use Prim.Native.Nat.{◌-◌}
use Rattle.hevc_rules.specs.WalkLaws.{last_column, last_row, sub_site, sub_spot}
use Rattle.hevc_rules.specs.WalkCode.{last_few, last_in_few, only_last, column_few, row_few}
use Rattle.pen.specs.Sheet.{sheet}
use Rattle.hevc_block_pen.specs.SubsPuts.{walk_begins, walk_on, walk_ends}
use Rattle.hevc_block_pen.proofs.subs.put_sub_blocks.Goals as goal

pub width_of-w-requires : goal.width_of-w-requires
width_of-w-requires c = (c.requires.2.least, c.requires.2.most)

pub overflow_sub-p : goal.overflow_sub-p
overflow_sub-p c = c.requires.2.least

pub number_in-last-requires : goal.number_in-last-requires
number_in-last-requires c =
    let a = c.args in (
      omega (arith, c.requires.2.most),
      c.requires.2.scan,
      last_column a.p a.h c.requires.2,
      last_row a.p a.h c.requires.2,
    )

pub number_in-lastin-requires : goal.number_in-lastin-requires
number_in-lastin-requires c = (
  omega arith,
  c.requires.2.scan,
  omega arith,
  omega arith,
)

pub overflow_step-i : goal.overflow_step-i
overflow_step-i c =
    let a = c.args in
    omega (arith, last_few a.p a.h c.requires.2 c.number_in-last.result c.number_in-last.ensures)

pub loop-i-init : goal.loop-i-init
loop-i-init c =
    let a = c.args in
    walk_begins a.p a.h a.block.now a.coded.now a.stats.now (sheet a.room.now a.pen) c.requires.3 c.requires.6
    c.number_in-last.result c.number_in-last.ensures

pub overflow_cast-xs : goal.overflow_cast-xs
overflow_cast-xs c =
    let a = c.args in
    omega (
      arith,
      last_few a.p a.h c.requires.2 c.number_in-last.result c.number_in-last.ensures,
      c.number_in-last.ensures,
      c.loop-i.invariant.few,
    )

pub offset_bounds-outer-i : goal.offset_bounds-outer-i
offset_bounds-outer-i c =
    let a = c.args in
    omega (
      arith,
      last_few a.p a.h c.requires.2 c.number_in-last.result c.number_in-last.ensures,
      c.number_in-last.ensures,
      c.loop-i.invariant.few,
    )

pub bounds-outer-i : goal.bounds-outer-i
bounds-outer-i c =
    let a = c.args in
    omega (
      arith,
      last_few a.p a.h c.requires.2 c.number_in-last.result c.number_in-last.ensures,
      c.number_in-last.ensures,
      c.loop-i.invariant.few,
    )

pub overflow_cast-xs-in-loop-i : goal.overflow_cast-xs-in-loop-i
overflow_cast-xs-in-loop-i c =
    let a = c.args in
    omega (
      arith,
      column_few a.p a.h c.requires.2 a.outer.now c.requires.1 (c.loop-i.i - 1)
          (omega (arith, c.loop-i.invariant.few, c.loop-i-test.true)),
    )

pub overflow_cast-ys : goal.overflow_cast-ys
overflow_cast-ys c =
    let a = c.args in
    omega (
      arith,
      last_few a.p a.h c.requires.2 c.number_in-last.result c.number_in-last.ensures,
      c.number_in-last.ensures,
      c.loop-i.invariant.few,
    )

pub offset_bounds-outer-i-in-loop-i : goal.offset_bounds-outer-i-in-loop-i
offset_bounds-outer-i-in-loop-i c =
    let a = c.args in
    omega (
      arith,
      last_few a.p a.h c.requires.2 c.number_in-last.result c.number_in-last.ensures,
      c.number_in-last.ensures,
      c.loop-i.invariant.few,
    )

pub bounds-outer-i-in-loop-i : goal.bounds-outer-i-in-loop-i
bounds-outer-i-in-loop-i c =
    let a = c.args in
    omega (
      arith,
      last_few a.p a.h c.requires.2 c.number_in-last.result c.number_in-last.ensures,
      c.number_in-last.ensures,
      c.loop-i.invariant.few,
    )

pub overflow_cast-ys-in-loop-i : goal.overflow_cast-ys-in-loop-i
overflow_cast-ys-in-loop-i c =
    let a = c.args in
    omega (
      arith,
      row_few a.p a.h c.requires.2 a.outer.now c.requires.1 (c.loop-i.i - 1)
          (omega (arith, c.loop-i.invariant.few, c.loop-i-test.true)),
    )

pub put_sub_block-r-requires : goal.put_sub_block-r-requires
put_sub_block-r-requires c =
    let a = c.args in (
      c.requires.0,
      c.width_of-w.ensures,
      sub_site a.p a.h c.requires.2 a.outer.now c.requires.1 (c.loop-i.i - 1)
          (omega (arith, c.loop-i.invariant.few, c.loop-i-test.true)),
      c.loop-i.invariant.flags,
      c.requires.4,
      c.requires.5,
      c.loop-i.invariant.statistics,
      c.loop-i.invariant.carries,
      sub_spot a.p a.h c.requires.2 a.outer.now c.requires.1 (c.loop-i.i - 1)
          (omega (arith, c.loop-i.invariant.few, c.loop-i-test.true)),
      last_in_few a.p a.h c.requires.2 c.number_in-lastin.result c.number_in-lastin.ensures,
      omega (arith, c.loop-i.invariant.few, c.loop-i-test.true, c.number_in-last.ensures),
      λ e. only_last a.p a.h c.requires.2 c.number_in-last.result (c.loop-i.i - 1) c.number_in-last.ensures
          (omega (arith, c.loop-i.invariant.few, c.loop-i-test.true, c.number_in-last.ensures)) e,
    )

pub loop-i-preserved : goal.loop-i-preserved
loop-i-preserved c =
    let a = c.args in
    walk_on a.p a.h a.block.now a.coded.now a.stats.now (sheet a.room.now a.pen) c.loop-i.i c.loop-i.c c.loop-i.coded c.loop-i.stats
    (sheet c.loop-i.room c.loop-i.y) c.loop-i.invariant c.number_in-last.result c.number_in-lastin.result c.number_in-last.ensures
    c.number_in-lastin.ensures c.loop-i-test.true c.put_sub_block-r.result.carry _ _ _ c.room-1.given c.put_sub_block-r.ensures.0 c.put_sub_block-r.ensures.1
    c.put_sub_block-r.ensures.2 c.put_sub_block-r.ensures.3

pub shape_of-room : goal.shape_of-room
shape_of-room c = c.loop-i.invariant.long

pub shape_of-coded : goal.shape_of-coded
shape_of-coded c =
    let a = c.args in
    c.loop-i.invariant.flags ∙ sym c.requires.3

pub returns : goal.returns
returns c =
    let a = c.args in
    walk_ends a.p a.h a.block.now a.coded.now a.stats.now (sheet a.room.now a.pen) c.loop-i.i c.loop-i.c c.loop-i.coded c.loop-i.stats
    (sheet c.loop-i.room c.loop-i.y) c.loop-i.invariant (omega (arith, c.loop-i-test.false))

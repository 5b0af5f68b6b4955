use native.Mathlib.Omega.{arith}
use Prim.Native.Nat.{◌-◌, ◌*◌, ◌≤◌}
use Rattle.bins.specs.StepLaws.{passed_on}
use Rattle.hevc_residual.specs.Wanted.{area, width}
use Rattle.hevc_rules.specs.SubsAgree.{last_of}
use Rattle.hevc_rules.specs.WalkLaws.{last_column, last_row, sub_spot, sub_site}
use Rattle.hevc_walk.specs.WalkLaws.{walk_ends}
use Rattle.hevc_rules.specs.WalkCode.{last_few, last_in_few, only_last, column_few, row_few}
use Rattle.hevc_walk.specs.WalkCode.{as_long, code_begins, code_refused, code_on}
use Rattle.hevc_sub_blocks.specs.SmallLaws.{zeros_long}
use Rattle.hevc_levels.specs.StoredLaws.{keeps_none}
use Rattle.hevc_subblock.specs.CarriedKeeps.{keeps_carried}
use Rattle.hevc_walk.proofs.walk.sub_blocks.Goals as goal

pub inner_order-order-requires : goal.inner_order-order-requires
inner_order-order-requires c = c.requires.2.scan

pub outer_order-outer-requires : goal.outer_order-outer-requires
outer_order-outer-requires c = let g = c.requires.2 in (g.least, g.most, g.scan)

pub range_bits-t-requires : goal.range_bits-t-requires
range_bits-t-requires c = c.requires.2.depth

pub width_of-w-requires : goal.width_of-w-requires
width_of-w-requires c = let g = c.requires.2 in (g.least, g.most)

pub overflow_sub-p : goal.overflow_sub-p
overflow_sub-p c = c.requires.2.least

pub number_in-last-requires : goal.number_in-last-requires
number_in-last-requires c =
    let a = c.args in
    let g = c.requires.2 in (omega (arith, g.most), g.scan, last_column a.p a.h c.requires.2, last_row a.p a.h c.requires.2)

pub number_in-lastin-requires : goal.number_in-lastin-requires
number_in-lastin-requires c = (omega arith, c.requires.2.scan, omega arith, omega arith)

pub overflow_step-i : goal.overflow_step-i
overflow_step-i c =
    let a = c.args in
    omega (arith, last_few a.p a.h c.requires.2 c.number_in-last.result c.number_in-last.ensures)

pub loop-i-init : goal.loop-i-init
loop-i-init c =
    let a = c.args in
    let long = zeros_long c.args.p c.args.block.now c.requires.4 in
    (code_begins a.p a.h a.list a.bytes.now a.x a.contexts.now a.coded.now a.block.now a.stats.now c.number_in-last.result c.number_in-last.ensures c.requires.0 c.requires.3 long c.requires.5, keeps_none a.p a.block.now c.requires.4)

pub overflow_cast-xs : goal.overflow_cast-xs
overflow_cast-xs c =
    let few : c.loop-i.i ≤ 64 = omega (arith, c.loop-i.invariant.0.few, last_few c.args.p c.args.h c.requires.2 c.number_in-last.result c.number_in-last.ensures, c.number_in-last.ensures) in
    omega (arith, few)

pub offset_bounds-outer-i : goal.offset_bounds-outer-i
offset_bounds-outer-i c =
    let few : c.loop-i.i ≤ 64 = omega (arith, c.loop-i.invariant.0.few, last_few c.args.p c.args.h c.requires.2 c.number_in-last.result c.number_in-last.ensures, c.number_in-last.ensures) in
    omega (arith, few)

pub bounds-outer-i : goal.bounds-outer-i
bounds-outer-i c =
    let few : c.loop-i.i ≤ 64 = omega (arith, c.loop-i.invariant.0.few, last_few c.args.p c.args.h c.requires.2 c.number_in-last.result c.number_in-last.ensures, c.number_in-last.ensures) in
    omega (arith, few)

pub bounds-outer-0 : goal.bounds-outer-0
bounds-outer-0 c = omega arith

pub overflow_cast-xs-in-loop-i : goal.overflow_cast-xs-in-loop-i
overflow_cast-xs-in-loop-i c =
    let a = c.args in
    let within : c.loop-i.i - 1 ≤ last_of c.args.p c.args.h = omega (arith, c.loop-i.invariant.0.few) in
    omega (arith, column_few a.p a.h c.requires.2 c.outer_order-outer.result c.outer_order-outer.ensures (c.loop-i.i - 1) within)

pub overflow_cast-ys : goal.overflow_cast-ys
overflow_cast-ys c =
    let few : c.loop-i.i ≤ 64 = omega (arith, c.loop-i.invariant.0.few, last_few c.args.p c.args.h c.requires.2 c.number_in-last.result c.number_in-last.ensures, c.number_in-last.ensures) in
    omega (arith, few)

pub offset_bounds-outer-i-in-loop-i : goal.offset_bounds-outer-i-in-loop-i
offset_bounds-outer-i-in-loop-i c =
    let few : c.loop-i.i ≤ 64 = omega (arith, c.loop-i.invariant.0.few, last_few c.args.p c.args.h c.requires.2 c.number_in-last.result c.number_in-last.ensures, c.number_in-last.ensures) in
    omega (arith, few)

pub bounds-outer-i-in-loop-i : goal.bounds-outer-i-in-loop-i
bounds-outer-i-in-loop-i c =
    let few : c.loop-i.i ≤ 64 = omega (arith, c.loop-i.invariant.0.few, last_few c.args.p c.args.h c.requires.2 c.number_in-last.result c.number_in-last.ensures, c.number_in-last.ensures) in
    omega (arith, few)

pub bounds-outer-1 : goal.bounds-outer-1
bounds-outer-1 c = omega arith

pub overflow_cast-ys-in-loop-i : goal.overflow_cast-ys-in-loop-i
overflow_cast-ys-in-loop-i c =
    let a = c.args in
    let within : c.loop-i.i - 1 ≤ last_of c.args.p c.args.h = omega (arith, c.loop-i.invariant.0.few) in
    omega (arith, row_few a.p a.h c.requires.2 c.outer_order-outer.result c.outer_order-outer.ensures (c.loop-i.i - 1) within)

pub sub_block-requires : goal.sub_block-requires
sub_block-requires c =
    let a = c.args in
    let within : c.loop-i.i - 1 ≤ last_of c.args.p c.args.h = omega (arith, c.loop-i.invariant.0.few) in
    let j = c.loop-i.invariant.0 in
    let m = within in (
      j.reads,
      c.requires.1,
      c.inner_order-order.ensures,
      c.width_of-w.ensures,
      sub_site a.p a.h c.requires.2 c.outer_order-outer.result c.outer_order-outer.ensures (c.loop-i.i - 1) m,
      j.flags,
      j.places,
      c.range_bits-t.ensures,
      j.statistics,
      j.carries,
      sub_spot a.p a.h c.requires.2 c.outer_order-outer.result c.outer_order-outer.ensures (c.loop-i.i - 1) m,
      last_in_few a.p a.h c.requires.2 c.number_in-lastin.result c.number_in-lastin.ensures,
      omega (arith, m, c.number_in-last.ensures),
      only_last a.p a.h c.requires.2 c.number_in-last.result (c.loop-i.i - 1) c.number_in-last.ensures (omega (arith, m, c.number_in-last.ensures)),
      c.loop-i.invariant.1,
    )

pub shape_of-coded-in_err-so_far : goal.shape_of-coded-in_err-so_far
shape_of-coded-in_err-so_far c = as_long c.sub_block.new.coded c.args.coded.now (width c.args.p * width c.args.p) c.sub_block.ensures.0 c.requires.3

pub shape_of-block-in_err-so_far : goal.shape_of-block-in_err-so_far
shape_of-block-in_err-so_far c =
    let long = zeros_long c.args.p c.args.block.now c.requires.4 in
    as_long c.sub_block.new.block c.args.block.now (area c.args.p) c.sub_block.ensures.1 long

pub returns-in_err-so_far : goal.returns-in_err-so_far
returns-in_err-so_far c =
    let a = c.args in
    rw (passed_on c.from_residual.result _ c.from_residual.ensures.1)
    (c.sub_block.ensures.1, c.sub_block.ensures.2, code_refused a.p a.h a.list a.bytes.now a.x a.contexts.now a.coded.now a.block.now a.stats.now c.number_in-last.result c.number_in-last.ensures c.number_in-lastin.result c.number_in-lastin.ensures c.loop-i.i c.loop-i.so_far.carry c.loop-i.so_far.next c.loop-i.contexts c.loop-i.coded c.loop-i.block c.loop-i.stats c.loop-i.invariant.0 (omega arith) c.sub_block.result c.sub_block.new.contexts c.sub_block.new.coded c.sub_block.new.block c.sub_block.new.stats c.sub_block.ensures.3 _ c.in_err-so_far.was, tt)

pub loop-i-preserved : goal.loop-i-preserved
loop-i-preserved c =
    let a = c.args in
    (code_on a.p a.h a.list a.bytes.now a.x a.contexts.now a.coded.now a.block.now a.stats.now c.number_in-last.result c.number_in-last.ensures c.number_in-lastin.result c.number_in-lastin.ensures c.loop-i.i c.loop-i.so_far.carry c.loop-i.so_far.next c.loop-i.contexts c.loop-i.coded c.loop-i.block c.loop-i.stats c.loop-i.invariant.0 (omega arith) c.sub_block.result c.sub_block.new.contexts c.sub_block.new.coded c.sub_block.new.block c.sub_block.new.stats c.sub_block.ensures.3 _ c.in_ok-so_far.was c.sub_block.ensures.0 c.sub_block.ensures.1 c.sub_block.ensures.2, keeps_carried a.p c.sub_block.result _ c.sub_block.new.block c.sub_block.ensures.4 c.in_ok-so_far.was)

pub shape_of-coded : goal.shape_of-coded
shape_of-coded c = as_long c.loop-i.coded c.args.coded.now (width c.args.p * width c.args.p) c.loop-i.invariant.0.flags c.requires.3

pub shape_of-block : goal.shape_of-block
shape_of-block c =
    let long = zeros_long c.args.p c.args.block.now c.requires.4 in
    as_long c.loop-i.block c.args.block.now (area c.args.p) c.loop-i.invariant.0.places long

pub returns : goal.returns
returns c =
    let a = c.args in
    (c.loop-i.invariant.0.places, c.loop-i.invariant.0.statistics, walk_ends a.p a.h a.list a.bytes.now a.x a.contexts.now a.coded.now a.block.now a.stats.now c.loop-i.i c.loop-i.so_far.carry c.loop-i.so_far.next c.loop-i.contexts c.loop-i.coded c.loop-i.block c.loop-i.stats c.loop-i.invariant.0 (omega arith) c.loop-i.so_far.stored, c.loop-i.invariant.1)

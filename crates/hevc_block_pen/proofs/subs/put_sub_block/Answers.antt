use native.Mathlib.Omega.{arith}
use mathlib.Core.Path.{sym, ◌∙◌}
use Rattle.hevc_scans.specs.ScanLaws.{outer_small}
use Rattle.hevc_residual.specs.Scan.{spot}
use Rattle.hevc_rules.specs.SubCode.{row_few, column_in, row_in, grid_few, flags_square, grid_in, near_few, marked_length, places_few, asked_held, held_small}
use Rattle.hevc_block_pen.specs.SubsPuts.{shown_in_range, sub_none, sub_empty, sub_levels}
use Rattle.hevc_block_pen.proofs.subs.put_sub_block.Goals as goal

pub neighbours_of-neighbours-requires : goal.neighbours_of-neighbours-requires
neighbours_of-neighbours-requires c =
    let a = c.args in (
      flags_square a.t.p a.s.xs a.s.ys a.t.w c.requires.2 c.requires.1 a.coded.now c.requires.3,
      row_few a.t.p a.s.xs a.s.ys a.t.w c.requires.2 c.requires.1,
      column_in a.t.p a.s.xs a.s.ys a.t.w c.requires.2 c.requires.1,
      row_in a.t.p a.s.xs a.s.ys a.t.w c.requires.2 c.requires.1,
    )

pub returns-then-not-coded_now : goal.returns-then-not-coded_now
returns-then-not-coded_now c =
    let a = c.args in (
      c.requires.3,
      c.requires.6,
      c.requires.7,
      sub_none a.t.p a.t.h a.t.last a.t.lastin a.s.i a.s.xs a.s.ys c.requires.8 a.block.now a.coded.now a.c a.stats.now
          c.is_bare-flag.result c.is_bare-flag.ensures a.t.w c.requires.1 c.neighbours_of-neighbours.result c.neighbours_of-neighbours.ensures
          c.is_middle-middle.result c.is_middle-middle.ensures c.flag_number-number.result c.flag_number-number.ensures.0
          _ _ c.put_coded_flag-y.ensures (sym c.coded_now.ensures ∙ c.if-not-coded_now.true),
    )

pub overflow_mul-coded : goal.overflow_mul-coded
overflow_mul-coded c = let a = c.args in omega (arith, grid_few a.t.p a.s.xs a.s.ys a.t.w c.requires.2 c.requires.1)

pub overflow_add-coded : goal.overflow_add-coded
overflow_add-coded c = let a = c.args in omega (arith, grid_few a.t.p a.s.xs a.s.ys a.t.w c.requires.2 c.requires.1)

pub overflow_cast-coded : goal.overflow_cast-coded
overflow_cast-coded c = let a = c.args in omega (arith, grid_few a.t.p a.s.xs a.s.ys a.t.w c.requires.2 c.requires.1)

pub bounds-coded-s : goal.bounds-coded-s
bounds-coded-s c = let a = c.args in grid_in a.t.p a.s.xs a.s.ys a.t.w c.requires.2 c.requires.1 a.coded.now c.requires.3

pub levels_of-levels-requires : goal.levels_of-levels-requires
levels_of-levels-requires c = (c.requires.0, c.requires.2, c.requires.4)

pub sig_numbers-requires : goal.sig_numbers-requires
sig_numbers-requires c =
    let a = c.args in
    let s = c.requires.2 in
    let x = outer_small a.t.p.log2 a.s.xs s.most s.column in
    let y = outer_small a.t.p.log2 a.s.ys s.most s.row in (
      s.least,
      s.most,
      s.scan,
      near_few a.coded.now a.t.w a.s.xs a.s.ys c.neighbours_of-neighbours.result c.neighbours_of-neighbours.ensures,
      x.0,
      y.0,
      λ e. (x.1 e, y.1 e),
    )

pub met-requires : goal.met-requires
met-requires c = c.requires.9

pub put_places-r-requires : goal.put_places-r-requires
put_places-r-requires c =
    let a = c.args in (
      c.met.ensures.packs,
      places_few a.s.i a.t.last a.t.lastin c.places_below.result c.met.result c.met.ensures c.requires.9 c.places_below.ensures,
      held_small a.t.p a.t.h a.t.last a.t.lastin a.s.i a.s.xs a.s.ys c.requires.8 c.is_single.result c.is_single.ensures c.places_below.result c.neighbours_of-neighbours.result c.requires.2
          c.requires.9 c.requires.11 c.places_below.ensures c.sig_numbers.result c.sig_numbers.ensures,
    )

pub shape_of-room-then-places-eq0 : goal.shape_of-room-then-places-eq0
shape_of-room-then-places-eq0 c = c.room-2-1.given ∙ c.room-1.given

pub returns-then-places-eq0 : goal.returns-then-places-eq0
returns-then-places-eq0 c =
    let a = c.args in
    let held = asked_held a.t.p a.s.i a.t.last a.t.lastin c.places_below.result c.requires.9 c.requires.11 c.places_below.ensures c.is_single.result
    c.neighbours_of-neighbours.result a.s.xs a.s.ys c.sig_numbers.result c.sig_numbers.ensures in (
      marked_length a.coded.now _ _ c.requires.3,
      c.requires.6,
      c.requires.7,
      sub_empty a.t.p a.t.h a.t.last a.t.lastin a.s.i a.s.xs a.s.ys c.requires.8 a.block.now a.coded.now a.c a.stats.now
          c.is_bare-flag.result c.is_bare-flag.ensures a.t.w c.requires.1 c.neighbours_of-neighbours.result c.neighbours_of-neighbours.ensures
          c.is_middle-middle.result c.is_middle-middle.ensures c.flag_number-number.result c.flag_number-number.ensures.0
          _ _ c.put_coded_flag-y.ensures (sym c.coded_now.ensures ∙ c.if-not-coded_now.false)
          c.is_single.result c.is_single.ensures c.places_below.result c.places_below.ensures c.met.result c.met.ensures
          c.sig_numbers.result held c.put_places-r.result.places _ c.levels_of-levels.result c.levels_of-levels.ensures c.put_places-r.ensures.1 c.if-places-eq0.true,
    )

pub put_coeffs-q-requires : goal.put_coeffs-q-requires
put_coeffs-q-requires c =
    let a = c.args in (
      c.requires.2.depth,
      shown_in_range a.t.p (spot a.s.xs a.s.ys) a.block.now c.levels_of-levels.result c.requires.5 c.levels_of-levels.ensures,
      c.requires.6,
      c.ctxset_of.ensures.1,
      c.put_places-r.ensures.0,
      omega (arith, c.if-places-eq0.false),
    )

pub shape_of-room : goal.shape_of-room
shape_of-room c = c.room-3-1.given ∙ c.room-2-1.given ∙ c.room-1.given

pub returns : goal.returns
returns c =
    let a = c.args in
    let held = asked_held a.t.p a.s.i a.t.last a.t.lastin c.places_below.result c.requires.9 c.requires.11 c.places_below.ensures c.is_single.result
    c.neighbours_of-neighbours.result a.s.xs a.s.ys c.sig_numbers.result c.sig_numbers.ensures in (
      marked_length a.coded.now _ _ c.requires.3,
      c.put_coeffs-q.ensures.1,
      record { carry = c.put_coeffs-q.ensures.0; column = omega arith },
      sub_levels a.t.p a.t.h a.t.last a.t.lastin a.s.i a.s.xs a.s.ys c.requires.8 a.block.now a.coded.now a.c a.stats.now
          c.is_bare-flag.result c.is_bare-flag.ensures a.t.w c.requires.1 c.neighbours_of-neighbours.result c.neighbours_of-neighbours.ensures
          c.is_middle-middle.result c.is_middle-middle.ensures c.flag_number-number.result c.flag_number-number.ensures.0
          _ _ c.put_coded_flag-y.ensures (sym c.coded_now.ensures ∙ c.if-not-coded_now.false)
          c.is_single.result c.is_single.ensures c.places_below.result c.places_below.ensures c.met.result c.met.ensures
          c.sig_numbers.result held c.put_places-r.result.places _ c.levels_of-levels.result c.levels_of-levels.ensures c.put_places-r.ensures.1 (omega (arith, c.if-places-eq0.false))
          c.ctxset_of.result c.ctxset_of.ensures.0 c.put_coeffs-q.result.carry _ _ c.put_coeffs-q.ensures.2,
    )

use native.Mathlib.Omega.{arith}
use Prim.Native.Nat.{◌+◌, ◌*◌}
use Rattle.bins.specs.StepLaws.{passed_on}
use Rattle.hevc_scans.specs.ScanLaws.{outer_small}
use Rattle.hevc_rules.specs.SubCode.{row_few, column_in, row_in, grid_few, flags_square, grid_in, near_few, marked_length, places_few, asked_held, held_small}
use Rattle.hevc_sub_blocks.specs.SubCode.{flag_refused, flag_none, flag_reads, places_refused, got_packs, got_reads, got_none, got_levels}
use Rattle.hevc_sub_blocks.proofs.subs.sub_block.Goals as goal

pub neighbours_of-neighbours-requires : goal.neighbours_of-neighbours-requires
neighbours_of-neighbours-requires c =
    let a = c.args in (
      flags_square a.p a.xs a.ys a.w c.requires.4 c.requires.3 a.coded.now c.requires.5,
      row_few a.p a.xs a.ys a.w c.requires.4 c.requires.3,
      column_in a.p a.xs a.ys a.w c.requires.4 c.requires.3,
      row_in a.p a.xs a.ys a.w c.requires.4 c.requires.3,
    )

pub returns-in_err-flag : goal.returns-in_err-flag
returns-in_err-flag c =
    let a = c.args in
    rw (passed_on c.from_residual.result _ c.from_residual.ensures.1) (
      c.requires.5,
      c.requires.6,
      c.requires.8,
      flag_refused a.p a.h a.last a.lastin a.i a.xs a.ys c.requires.10 a.list a.bytes.now a.c a.coded.now a.block.now a.stats.now a.x a.contexts.now a.w c.requires.3
          c.neighbours_of-neighbours.result c.neighbours_of-neighbours.ensures c.is_middle-middle.result c.is_middle-middle.ensures c.flag_number-number.result c.flag_number-number.ensures.0 c.coded_flag.result c.coded_flag.new.contexts c.coded_flag.ensures _ c.in_err-flag.was,
      tt,
    )

pub returns-then-flag-eq0 : goal.returns-then-flag-eq0
returns-then-flag-eq0 c =
    let a = c.args in (
      c.requires.5,
      c.requires.6,
      c.requires.8,
      (
        c.requires.9,
        flag_none a.p a.h a.last a.lastin a.i a.xs a.ys c.requires.10 a.list a.bytes.now a.c a.coded.now a.block.now a.stats.now a.x a.contexts.now a.w c.requires.3
            c.neighbours_of-neighbours.result c.neighbours_of-neighbours.ensures c.is_middle-middle.result c.is_middle-middle.ensures c.flag_number-number.result c.flag_number-number.ensures.0 c.coded_flag.result c.coded_flag.new.contexts c.coded_flag.ensures _ _ c.in_ok-flag.was c.if-flag-eq0.true,
      ),
      c.requires.14,
    )

pub overflow_mul-coded : goal.overflow_mul-coded
overflow_mul-coded c =
    let a = c.args in
    omega (arith, grid_few a.p a.xs a.ys a.w c.requires.4 c.requires.3)

pub overflow_add-coded : goal.overflow_add-coded
overflow_add-coded c =
    let a = c.args in
    omega (arith, grid_few a.p a.xs a.ys a.w c.requires.4 c.requires.3)

pub overflow_cast-coded : goal.overflow_cast-coded
overflow_cast-coded c =
    let a = c.args in
    omega (arith, grid_few a.p a.xs a.ys a.w c.requires.4 c.requires.3)

pub bounds-coded-ys : goal.bounds-coded-ys
bounds-coded-ys c =
    let a = c.args in
    grid_in a.p a.xs a.ys a.w c.requires.4 c.requires.3 a.coded.now c.requires.5

pub sig_numbers-requires : goal.sig_numbers-requires
sig_numbers-requires c =
    let a = c.args in
    let s = c.requires.4 in
    let x = outer_small a.p.log2 a.xs s.most s.column in
    let y = outer_small a.p.log2 a.ys s.most s.row in (
      s.least,
      s.most,
      s.scan,
      near_few a.coded.now a.w a.xs a.ys c.neighbours_of-neighbours.result c.neighbours_of-neighbours.ensures,
      x.0,
      y.0,
      λ e. (x.1 e, y.1 e),
    )

pub significance-requires : goal.significance-requires
significance-requires c =
    let a = c.args in
    let s = c.requires.4 in (
      flag_reads a.p a.h a.last a.lastin a.i a.xs a.ys c.requires.10 a.list a.bytes.now a.c a.coded.now a.block.now a.stats.now a.x a.contexts.now a.w c.requires.3
          c.neighbours_of-neighbours.result c.neighbours_of-neighbours.ensures c.is_middle-middle.result c.is_middle-middle.ensures c.flag_number-number.result c.flag_number-number.ensures.0 c.coded_flag.result c.coded_flag.new.contexts c.coded_flag.ensures _ _ c.in_ok-flag.was c.requires.0,
      c.requires.1,
      c.met.ensures.packs,
      places_few a.i a.last a.lastin c.places_below.result c.met.result c.met.ensures c.requires.11 c.places_below.ensures,
      held_small a.p a.h a.last a.lastin a.i a.xs a.ys c.requires.10 c.is_single.result c.is_single.ensures c.places_below.result c.neighbours_of-neighbours.result s c.requires.11 c.requires.13 c.places_below.ensures c.sig_numbers.result c.sig_numbers.ensures,
    )

pub returns-in_err-placed : goal.returns-in_err-placed
returns-in_err-placed c =
    let a = c.args in
    let held = asked_held a.p a.i a.last a.lastin c.places_below.result c.requires.11 c.requires.13 c.places_below.ensures c.is_single.result c.neighbours_of-neighbours.result a.xs a.ys c.sig_numbers.result c.sig_numbers.ensures in
    let o = c.if-flag-eq0.false in
    rw (passed_on c.from_residual-in_err-placed.result _ c.from_residual-in_err-placed.ensures.1) (
      marked_length a.coded.now (a.ys * a.w + a.xs) _ c.requires.5,
      c.requires.6,
      c.requires.8,
      places_refused a.p a.h a.last a.lastin a.i a.xs a.ys c.requires.10 a.list a.bytes.now a.c a.coded.now a.block.now a.stats.now a.x a.contexts.now a.w c.requires.3
          c.neighbours_of-neighbours.result c.neighbours_of-neighbours.ensures c.is_middle-middle.result c.is_middle-middle.ensures c.flag_number-number.result c.flag_number-number.ensures.0 c.coded_flag.result c.coded_flag.new.contexts c.coded_flag.ensures c.in_ok-flag.flag.value c.in_ok-flag.flag.next c.in_ok-flag.was o c.is_single.result c.is_single.ensures c.places_below.result c.places_below.ensures c.met.result c.met.ensures c.sig_numbers.result held c.significance.result c.significance.new.contexts c.significance.ensures _ c.in_err-placed.was,
      tt,
    )

pub returns-then-s-eq0 : goal.returns-then-s-eq0
returns-then-s-eq0 c =
    let a = c.args in
    let held = asked_held a.p a.i a.last a.lastin c.places_below.result c.requires.11 c.requires.13 c.places_below.ensures c.is_single.result c.neighbours_of-neighbours.result a.xs a.ys c.sig_numbers.result c.sig_numbers.ensures in
    let o = c.if-flag-eq0.false in (
      marked_length a.coded.now (a.ys * a.w + a.xs) _ c.requires.5,
      c.requires.6,
      c.requires.8,
      (
        c.requires.9,
        got_none a.p a.h a.last a.lastin a.i a.xs a.ys c.requires.10 a.list a.bytes.now a.c a.coded.now a.block.now a.stats.now a.x a.contexts.now a.w c.requires.3
            c.neighbours_of-neighbours.result c.neighbours_of-neighbours.ensures c.is_middle-middle.result c.is_middle-middle.ensures c.flag_number-number.result c.flag_number-number.ensures.0 c.coded_flag.result c.coded_flag.new.contexts c.coded_flag.ensures c.in_ok-flag.flag.value c.in_ok-flag.flag.next c.in_ok-flag.was o c.is_single.result c.is_single.ensures c.places_below.result c.places_below.ensures c.met.result c.met.ensures c.sig_numbers.result held c.significance.result c.significance.new.contexts c.significance.ensures _ _ c.in_ok-placed.was c.if-s-eq0.true,
      ),
      c.requires.14,
    )

pub coeffs-requires : goal.coeffs-requires
coeffs-requires c =
    let a = c.args in
    let held = asked_held a.p a.i a.last a.lastin c.places_below.result c.requires.11 c.requires.13 c.places_below.ensures c.is_single.result c.neighbours_of-neighbours.result a.xs a.ys c.sig_numbers.result c.sig_numbers.ensures in
    let o = c.if-flag-eq0.false in
    let z = c.if-s-eq0.false in (
      got_reads a.p a.h a.last a.lastin a.i a.xs a.ys c.requires.10 a.list a.bytes.now a.c a.coded.now a.block.now a.stats.now a.x a.contexts.now a.w c.requires.3
          c.neighbours_of-neighbours.result c.neighbours_of-neighbours.ensures c.is_middle-middle.result c.is_middle-middle.ensures c.flag_number-number.result c.flag_number-number.ensures.0 c.coded_flag.result c.coded_flag.new.contexts c.coded_flag.ensures c.in_ok-flag.flag.value c.in_ok-flag.flag.next c.in_ok-flag.was o c.is_single.result c.is_single.ensures c.places_below.result c.places_below.ensures c.met.result c.met.ensures c.sig_numbers.result held c.significance.result c.significance.new.contexts c.significance.ensures _ _ c.in_ok-placed.was
          (flag_reads a.p a.h a.last a.lastin a.i a.xs a.ys c.requires.10 a.list a.bytes.now a.c a.coded.now a.block.now a.stats.now a.x a.contexts.now a.w c.requires.3
          c.neighbours_of-neighbours.result c.neighbours_of-neighbours.ensures c.is_middle-middle.result c.is_middle-middle.ensures c.flag_number-number.result c.flag_number-number.ensures.0 c.coded_flag.result c.coded_flag.new.contexts c.coded_flag.ensures _ _ c.in_ok-flag.was c.requires.0),
      c.requires.1,
      c.requires.2,
      c.requires.4,
      c.requires.6,
      c.requires.7,
      c.requires.8,
      c.ctxset_of.ensures.1,
      got_packs a.p a.h a.last a.lastin a.i a.xs a.ys c.requires.10 a.list a.bytes.now a.c a.coded.now a.block.now a.stats.now a.x a.contexts.now a.w c.requires.3
          c.neighbours_of-neighbours.result c.neighbours_of-neighbours.ensures c.is_middle-middle.result c.is_middle-middle.ensures c.flag_number-number.result c.flag_number-number.ensures.0 c.coded_flag.result c.coded_flag.new.contexts c.coded_flag.ensures c.in_ok-flag.flag.value c.in_ok-flag.flag.next c.in_ok-flag.was o c.is_single.result c.is_single.ensures c.places_below.result c.places_below.ensures c.met.result c.met.ensures c.sig_numbers.result held c.significance.result c.significance.new.contexts c.significance.ensures _ _ c.in_ok-placed.was,
      omega (arith, z),
      c.requires.9,
      c.requires.14,
    )

pub returns : goal.returns
returns c =
    let a = c.args in
    let held = asked_held a.p a.i a.last a.lastin c.places_below.result c.requires.11 c.requires.13 c.places_below.ensures c.is_single.result c.neighbours_of-neighbours.result a.xs a.ys c.sig_numbers.result c.sig_numbers.ensures in
    let o = c.if-flag-eq0.false in
    let z = c.if-s-eq0.false in (
      marked_length a.coded.now (a.ys * a.w + a.xs) _ c.requires.5,
      c.coeffs.ensures.0,
      c.coeffs.ensures.1,
      got_levels a.p a.h a.last a.lastin a.i a.xs a.ys c.requires.10 a.list a.bytes.now a.c a.coded.now a.block.now a.stats.now a.x a.contexts.now a.w c.requires.3
          c.neighbours_of-neighbours.result c.neighbours_of-neighbours.ensures c.is_middle-middle.result c.is_middle-middle.ensures c.flag_number-number.result c.flag_number-number.ensures.0 c.coded_flag.result c.coded_flag.new.contexts c.coded_flag.ensures c.in_ok-flag.flag.value c.in_ok-flag.flag.next c.in_ok-flag.was o c.is_single.result c.is_single.ensures c.places_below.result c.places_below.ensures c.met.result c.met.ensures c.sig_numbers.result held c.significance.result c.significance.new.contexts c.significance.ensures _ _ c.in_ok-placed.was (omega (arith, z)) c.ctxset_of.result c.ctxset_of.ensures.0 c.coeffs.result
          c.coeffs.new.contexts c.coeffs.new.block c.coeffs.new.stats c.coeffs.ensures.2,
      c.coeffs.ensures.3,
    )

use mathlib.Core.Path.{refl}
use mathlib.Core.List.{[]}
use lib.ListN.{get_or}
use lib.Dec.{eqb}
use Rattle.bins.specs.StepLaws.{passed_on}
use Rattle.hevc_residual.specs.Scan.{spot}
use Rattle.hevc_residual.specs.Head.{skip_or_bypass}
use Rattle.hevc_rules.specs.CoeffsAgree.{hides}
use Rattle.hevc_residual.specs.LimitLaws.{stats_set}
use Rattle.hevc_rules.specs.CoeffsLaws.{base_few, number_few, hidden_few, sb_few}
use Rattle.hevc_subblock.specs.CoeffsLaws.{any_levels, read_bins_lem, read_two, read_align, read_signs, read_levels, start_fine, eight_few, signs_few}
use Rattle.hevc_levels.specs.StoredLaws.{keeps_leveled}
use Rattle.hevc_subblock.proofs.coeffs.coeffs.Goals as goal

-- what each call's answer leads to
pub greater1-requires : goal.greater1-requires
greater1-requires c = (c.requires.0, c.requires.1, base_few c.args.p.luma c.args.ctxset c.greater1_base-base.result c.greater1_base-base.ensures c.requires.7, eight_few c.eight.result c.args.s.count c.eight.ensures)

pub returns-in_err-m : goal.returns-in_err-m
returns-in_err-m c =
    let a = c.args in
    let at_bins = read_bins_lem a.p a.h (spot a.xs a.ys) a.list a.bytes.now a.ctxset a.s a.c a.x a.contexts.now a.block.now a.stats.now c.requires.9 c.requires.0 c.greater1_base-base.result c.eight.result c.greater1_base-base.ensures c.eight.ensures c.greater1.result c.greater1.new.contexts c.greater1.ensures in
    rw (passed_on c.from_residual.result _ c.from_residual.ensures.1)
    (c.requires.4, c.requires.6, at_bins.no _ c.in_err-m.was, tt)

pub flag_if-requires : goal.flag_if-requires
flag_if-requires c =
    let a = c.args in
    let at_bins = read_bins_lem a.p a.h (spot a.xs a.ys) a.list a.bytes.now a.ctxset a.s a.c a.x a.contexts.now a.block.now a.stats.now c.requires.9 c.requires.0 c.greater1_base-base.result c.eight.result c.greater1_base-base.ensures c.eight.ensures c.greater1.result c.greater1.new.contexts c.greater1.ensures in (
      ((at_bins.ok _ c.in_ok-m.was).2 any_levels []).reads,
      number_few c.args.p.luma c.args.ctxset c.greater2_number-number.result c.greater2_number-number.ensures c.requires.7,
      c.requires.1,
    )

pub returns-in_err-two : goal.returns-in_err-two
returns-in_err-two c =
    let a = c.args in
    let at_bins = read_bins_lem a.p a.h (spot a.xs a.ys) a.list a.bytes.now a.ctxset a.s a.c a.x a.contexts.now a.block.now a.stats.now c.requires.9 c.requires.0 c.greater1_base-base.result c.eight.result c.greater1_base-base.ensures c.eight.ensures c.greater1.result c.greater1.new.contexts c.greater1.ensures in
    let mask2 = c.in_ok-m.m.mask in
    let carry2 = c.in_ok-m.m.carry in
    let small2 = (at_bins.ok _ c.in_ok-m.was).0 in
    let at_two = read_two a.p a.h (spot a.xs a.ys) a.list a.bytes.now a.ctxset a.s a.c a.x a.contexts.now a.block.now a.stats.now c.requires.9 mask2 carry2 small2 c.in_ok-m.m.next c.greater1.new.contexts (at_bins.ok _ c.in_ok-m.was).2 c.greater2_number-number.result c.greater2_number-number.ensures c.flag_if.result c.flag_if.new.contexts c.flag_if.ensures in
    rw (passed_on c.from_residual-in_err-two.result _ c.from_residual-in_err-two.ensures.1)
    (c.requires.4, c.requires.6, at_two.no _ c.in_err-two.was, tt)

pub align_if-requires : goal.align_if-requires
align_if-requires c =
    let a = c.args in
    let at_bins = read_bins_lem a.p a.h (spot a.xs a.ys) a.list a.bytes.now a.ctxset a.s a.c a.x a.contexts.now a.block.now a.stats.now c.requires.9 c.requires.0 c.greater1_base-base.result c.eight.result c.greater1_base-base.ensures c.eight.ensures c.greater1.result c.greater1.new.contexts c.greater1.ensures in
    let mask2 = c.in_ok-m.m.mask in
    let carry2 = c.in_ok-m.m.carry in
    let small2 = (at_bins.ok _ c.in_ok-m.was).0 in
    let at_two = read_two a.p a.h (spot a.xs a.ys) a.list a.bytes.now a.ctxset a.s a.c a.x a.contexts.now a.block.now a.stats.now c.requires.9 mask2 carry2 small2 c.in_ok-m.m.next c.greater1.new.contexts (at_bins.ok _ c.in_ok-m.was).2 c.greater2_number-number.result c.greater2_number-number.ensures c.flag_if.result c.flag_if.new.contexts c.flag_if.ensures in
    (at_two.ok _ _ c.in_ok-two.was any_levels []).reads.0

pub returns-in_err-aligned : goal.returns-in_err-aligned
returns-in_err-aligned c =
    let a = c.args in
    let at_bins = read_bins_lem a.p a.h (spot a.xs a.ys) a.list a.bytes.now a.ctxset a.s a.c a.x a.contexts.now a.block.now a.stats.now c.requires.9 c.requires.0 c.greater1_base-base.result c.eight.result c.greater1_base-base.ensures c.eight.ensures c.greater1.result c.greater1.new.contexts c.greater1.ensures in
    let mask2 = c.in_ok-m.m.mask in
    let carry2 = c.in_ok-m.m.carry in
    let small2 = (at_bins.ok _ c.in_ok-m.was).0 in
    let at_two = read_two a.p a.h (spot a.xs a.ys) a.list a.bytes.now a.ctxset a.s a.c a.x a.contexts.now a.block.now a.stats.now c.requires.9 mask2 carry2 small2 c.in_ok-m.m.next c.greater1.new.contexts (at_bins.ok _ c.in_ok-m.was).2 c.greater2_number-number.result c.greater2_number-number.ensures c.flag_if.result c.flag_if.new.contexts c.flag_if.ensures in
    let two3 = eqb c.in_ok-two.two.value 1 in
    let at_align = read_align a.p a.h (spot a.xs a.ys) a.list a.bytes.now a.ctxset a.s a.c a.x a.contexts.now a.block.now a.stats.now c.requires.9 mask2 carry2 small2 two3 c.in_ok-two.two.next c.flag_if.new.contexts (at_two.ok _ _ c.in_ok-two.was) c.aligns-due.result c.aligns-due.ensures c.align_if.result c.align_if.ensures in
    rw (passed_on c.from_residual-in_err-aligned.result _ c.from_residual-in_err-aligned.ensures.1)
    (c.requires.4, c.requires.6, at_align.no _ c.in_err-aligned.was, tt)

pub hidden-requires : goal.hidden-requires
hidden-requires c = (c.requires.8, c.requires.9)

pub overflow_sub-coded : goal.overflow_sub-coded
overflow_sub-coded c = hidden_few (hides c.args.p c.args.h.skip c.args.h.rdpcm c.args.s) c.hidden.result c.args.s.count c.hidden.ensures c.requires.9

pub decode_bypass_bits-requires : goal.decode_bypass_bits-requires
decode_bypass_bits-requires c =
    let a = c.args in
    let at_bins = read_bins_lem a.p a.h (spot a.xs a.ys) a.list a.bytes.now a.ctxset a.s a.c a.x a.contexts.now a.block.now a.stats.now c.requires.9 c.requires.0 c.greater1_base-base.result c.eight.result c.greater1_base-base.ensures c.eight.ensures c.greater1.result c.greater1.new.contexts c.greater1.ensures in
    let mask2 = c.in_ok-m.m.mask in
    let carry2 = c.in_ok-m.m.carry in
    let small2 = (at_bins.ok _ c.in_ok-m.was).0 in
    let at_two = read_two a.p a.h (spot a.xs a.ys) a.list a.bytes.now a.ctxset a.s a.c a.x a.contexts.now a.block.now a.stats.now c.requires.9 mask2 carry2 small2 c.in_ok-m.m.next c.greater1.new.contexts (at_bins.ok _ c.in_ok-m.was).2 c.greater2_number-number.result c.greater2_number-number.ensures c.flag_if.result c.flag_if.new.contexts c.flag_if.ensures in
    let two3 = eqb c.in_ok-two.two.value 1 in
    let at_align = read_align a.p a.h (spot a.xs a.ys) a.list a.bytes.now a.ctxset a.s a.c a.x a.contexts.now a.block.now a.stats.now c.requires.9 mask2 carry2 small2 two3 c.in_ok-two.two.next c.flag_if.new.contexts (at_two.ok _ _ c.in_ok-two.was) c.aligns-due.result c.aligns-due.ensures c.align_if.result c.align_if.ensures in
    ((at_align.ok _ _ c.in_ok-aligned.was any_levels []).reads.0, signs_few c.args.s.count c.hidden.result c.requires.8.few)

pub returns-in_err-signs : goal.returns-in_err-signs
returns-in_err-signs c =
    let a = c.args in
    let at_bins = read_bins_lem a.p a.h (spot a.xs a.ys) a.list a.bytes.now a.ctxset a.s a.c a.x a.contexts.now a.block.now a.stats.now c.requires.9 c.requires.0 c.greater1_base-base.result c.eight.result c.greater1_base-base.ensures c.eight.ensures c.greater1.result c.greater1.new.contexts c.greater1.ensures in
    let mask2 = c.in_ok-m.m.mask in
    let carry2 = c.in_ok-m.m.carry in
    let small2 = (at_bins.ok _ c.in_ok-m.was).0 in
    let at_two = read_two a.p a.h (spot a.xs a.ys) a.list a.bytes.now a.ctxset a.s a.c a.x a.contexts.now a.block.now a.stats.now c.requires.9 mask2 carry2 small2 c.in_ok-m.m.next c.greater1.new.contexts (at_bins.ok _ c.in_ok-m.was).2 c.greater2_number-number.result c.greater2_number-number.ensures c.flag_if.result c.flag_if.new.contexts c.flag_if.ensures in
    let two3 = eqb c.in_ok-two.two.value 1 in
    let at_align = read_align a.p a.h (spot a.xs a.ys) a.list a.bytes.now a.ctxset a.s a.c a.x a.contexts.now a.block.now a.stats.now c.requires.9 mask2 carry2 small2 two3 c.in_ok-two.two.next c.flag_if.new.contexts (at_two.ok _ _ c.in_ok-two.was) c.aligns-due.result c.aligns-due.ensures c.align_if.result c.align_if.ensures in
    let two4 = two3 in
    let at_signs = read_signs a.p a.h (spot a.xs a.ys) a.list a.bytes.now a.ctxset a.s a.c a.x a.contexts.now a.block.now a.stats.now c.requires.9 mask2 carry2 small2 two4 c.in_ok-aligned.aligned.next c.flag_if.new.contexts (at_align.ok _ _ c.in_ok-aligned.was) c.hidden.result c.hidden.ensures c.decode_bypass_bits.result c.decode_bypass_bits.ensures in
    rw (passed_on c.from_residual-in_err-signs.result _ c.from_residual-in_err-signs.ensures.1)
    (c.requires.4, c.requires.6, at_signs.no _ c.in_err-signs.was, tt)

pub bounds-stats-sb : goal.bounds-stats-sb
bounds-stats-sb c =
    let a = c.args in
    sb_few c.sb_type-sb.result a.p.luma (skip_or_bypass a.p a.h.skip) c.sb_type-sb.ensures

pub read_levels-requires : goal.read_levels-requires
read_levels-requires c =
    let a = c.args in
    let at_bins = read_bins_lem a.p a.h (spot a.xs a.ys) a.list a.bytes.now a.ctxset a.s a.c a.x a.contexts.now a.block.now a.stats.now c.requires.9 c.requires.0 c.greater1_base-base.result c.eight.result c.greater1_base-base.ensures c.eight.ensures c.greater1.result c.greater1.new.contexts c.greater1.ensures in
    let mask2 = c.in_ok-m.m.mask in
    let carry2 = c.in_ok-m.m.carry in
    let small2 = (at_bins.ok _ c.in_ok-m.was).0 in
    let at_two = read_two a.p a.h (spot a.xs a.ys) a.list a.bytes.now a.ctxset a.s a.c a.x a.contexts.now a.block.now a.stats.now c.requires.9 mask2 carry2 small2 c.in_ok-m.m.next c.greater1.new.contexts (at_bins.ok _ c.in_ok-m.was).2 c.greater2_number-number.result c.greater2_number-number.ensures c.flag_if.result c.flag_if.new.contexts c.flag_if.ensures in
    let two3 = eqb c.in_ok-two.two.value 1 in
    let at_align = read_align a.p a.h (spot a.xs a.ys) a.list a.bytes.now a.ctxset a.s a.c a.x a.contexts.now a.block.now a.stats.now c.requires.9 mask2 carry2 small2 two3 c.in_ok-two.two.next c.flag_if.new.contexts (at_two.ok _ _ c.in_ok-two.was) c.aligns-due.result c.aligns-due.ensures c.align_if.result c.align_if.ensures in
    let two4 = two3 in
    let at_signs = read_signs a.p a.h (spot a.xs a.ys) a.list a.bytes.now a.ctxset a.s a.c a.x a.contexts.now a.block.now a.stats.now c.requires.9 mask2 carry2 small2 two4 c.in_ok-aligned.aligned.next c.flag_if.new.contexts (at_align.ok _ _ c.in_ok-aligned.was) c.hidden.result c.hidden.ensures c.decode_bypass_bits.result c.decode_bypass_bits.ensures in (
      (at_signs.ok _ _ c.in_ok-signs.was any_levels []).reads.0,
      c.requires.2,
      c.requires.3,
      c.requires.4,
      c.requires.5,
      start_fine a.p a.h (spot a.xs a.ys) a.list a.bytes.now a.ctxset a.s a.c a.x a.contexts.now a.block.now a.stats.now c.requires.9 mask2 carry2 small2 two4 c.in_ok-signs.signs.value c.in_ok-signs.signs.next c.flag_if.new.contexts
          (at_signs.ok _ _ c.in_ok-signs.was) c.eight-2.result c.hidden.result c.sb_type-sb.result (get_or a.stats.now c.sb_type-sb.result 0) c.rice_start.result c.eight-2.ensures c.hidden.ensures c.sb_type-sb.ensures refl c.rice_start.ensures
          c.requires.8 c.requires.10 c.requires.6,
      c.requires.11,
    )

pub returns-in_err-e : goal.returns-in_err-e
returns-in_err-e c =
    let a = c.args in
    let at_bins = read_bins_lem a.p a.h (spot a.xs a.ys) a.list a.bytes.now a.ctxset a.s a.c a.x a.contexts.now a.block.now a.stats.now c.requires.9 c.requires.0 c.greater1_base-base.result c.eight.result c.greater1_base-base.ensures c.eight.ensures c.greater1.result c.greater1.new.contexts c.greater1.ensures in
    let mask2 = c.in_ok-m.m.mask in
    let carry2 = c.in_ok-m.m.carry in
    let small2 = (at_bins.ok _ c.in_ok-m.was).0 in
    let at_two = read_two a.p a.h (spot a.xs a.ys) a.list a.bytes.now a.ctxset a.s a.c a.x a.contexts.now a.block.now a.stats.now c.requires.9 mask2 carry2 small2 c.in_ok-m.m.next c.greater1.new.contexts (at_bins.ok _ c.in_ok-m.was).2 c.greater2_number-number.result c.greater2_number-number.ensures c.flag_if.result c.flag_if.new.contexts c.flag_if.ensures in
    let two3 = eqb c.in_ok-two.two.value 1 in
    let at_align = read_align a.p a.h (spot a.xs a.ys) a.list a.bytes.now a.ctxset a.s a.c a.x a.contexts.now a.block.now a.stats.now c.requires.9 mask2 carry2 small2 two3 c.in_ok-two.two.next c.flag_if.new.contexts (at_two.ok _ _ c.in_ok-two.was) c.aligns-due.result c.aligns-due.ensures c.align_if.result c.align_if.ensures in
    let two4 = two3 in
    let at_signs = read_signs a.p a.h (spot a.xs a.ys) a.list a.bytes.now a.ctxset a.s a.c a.x a.contexts.now a.block.now a.stats.now c.requires.9 mask2 carry2 small2 two4 c.in_ok-aligned.aligned.next c.flag_if.new.contexts (at_align.ok _ _ c.in_ok-aligned.was) c.hidden.result c.hidden.ensures c.decode_bypass_bits.result c.decode_bypass_bits.ensures in
    let at_levels = read_levels a.p a.h (spot a.xs a.ys) a.list a.bytes.now a.ctxset a.s a.c a.x a.contexts.now a.block.now a.stats.now c.requires.9 mask2 carry2 small2 two4 c.in_ok-signs.signs.value c.in_ok-signs.signs.next c.flag_if.new.contexts (at_signs.ok _ _ c.in_ok-signs.was) c.eight-2.result c.hidden.result c.sb_type-sb.result (get_or a.stats.now c.sb_type-sb.result 0) c.rice_start.result c.eight-2.ensures c.hidden.ensures c.sb_type-sb.ensures refl c.rice_start.ensures c.read_levels.result c.read_levels.new.block c.read_levels.ensures.1 in
    rw (passed_on c.from_residual-in_err-e.result _ c.from_residual-in_err-e.ensures.1)
    (c.read_levels.ensures.0, c.requires.6, at_levels.no _ c.in_err-e.was, tt)

pub bounds-stats-sb-2 : goal.bounds-stats-sb-2
bounds-stats-sb-2 c =
    let a = c.args in
    sb_few c.sb_type-sb.result a.p.luma (skip_or_bypass a.p a.h.skip) c.sb_type-sb.ensures

pub returns : goal.returns
returns c =
    let a = c.args in
    let at_bins = read_bins_lem a.p a.h (spot a.xs a.ys) a.list a.bytes.now a.ctxset a.s a.c a.x a.contexts.now a.block.now a.stats.now c.requires.9 c.requires.0 c.greater1_base-base.result c.eight.result c.greater1_base-base.ensures c.eight.ensures c.greater1.result c.greater1.new.contexts c.greater1.ensures in
    let mask2 = c.in_ok-m.m.mask in
    let carry2 = c.in_ok-m.m.carry in
    let small2 = (at_bins.ok _ c.in_ok-m.was).0 in
    let at_two = read_two a.p a.h (spot a.xs a.ys) a.list a.bytes.now a.ctxset a.s a.c a.x a.contexts.now a.block.now a.stats.now c.requires.9 mask2 carry2 small2 c.in_ok-m.m.next c.greater1.new.contexts (at_bins.ok _ c.in_ok-m.was).2 c.greater2_number-number.result c.greater2_number-number.ensures c.flag_if.result c.flag_if.new.contexts c.flag_if.ensures in
    let two3 = eqb c.in_ok-two.two.value 1 in
    let at_align = read_align a.p a.h (spot a.xs a.ys) a.list a.bytes.now a.ctxset a.s a.c a.x a.contexts.now a.block.now a.stats.now c.requires.9 mask2 carry2 small2 two3 c.in_ok-two.two.next c.flag_if.new.contexts (at_two.ok _ _ c.in_ok-two.was) c.aligns-due.result c.aligns-due.ensures c.align_if.result c.align_if.ensures in
    let two4 = two3 in
    let at_signs = read_signs a.p a.h (spot a.xs a.ys) a.list a.bytes.now a.ctxset a.s a.c a.x a.contexts.now a.block.now a.stats.now c.requires.9 mask2 carry2 small2 two4 c.in_ok-aligned.aligned.next c.flag_if.new.contexts (at_align.ok _ _ c.in_ok-aligned.was) c.hidden.result c.hidden.ensures c.decode_bypass_bits.result c.decode_bypass_bits.ensures in
    let sb5 = c.sb_type-sb.result in
    let at_levels = read_levels a.p a.h (spot a.xs a.ys) a.list a.bytes.now a.ctxset a.s a.c a.x a.contexts.now a.block.now a.stats.now c.requires.9 mask2 carry2 small2 two4 c.in_ok-signs.signs.value c.in_ok-signs.signs.next c.flag_if.new.contexts (at_signs.ok _ _ c.in_ok-signs.was) c.eight-2.result c.hidden.result c.sb_type-sb.result (get_or a.stats.now c.sb_type-sb.result 0) c.rice_start.result c.eight-2.ensures c.hidden.ensures c.sb_type-sb.ensures refl c.rice_start.ensures c.read_levels.result c.read_levels.new.block c.read_levels.ensures.1 in
    let k = at_levels.ok _ c.in_ok-e.was in
    let f = at_bins.ok _ c.in_ok-m.was in (
      c.read_levels.ensures.0,
      stats_set c.args.stats.now sb5 c.in_ok-e.e.going.stat c.requires.6 k.0.stat,
      (record { carry = f.1; column = k.0.column }, k.1),
      keeps_leveled c.args.p c.read_levels.result _ c.read_levels.new.block c.read_levels.ensures.2 c.in_ok-e.was,
    )

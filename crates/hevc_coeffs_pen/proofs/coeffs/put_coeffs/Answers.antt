use native.Mathlib.Omega.{arith}
use mathlib.Core.Path.{refl, ◌∙◌}
use Rattle.hevc_residual.specs.Head.{skip_or_bypass}
use Rattle.hevc_residual.specs.LimitLaws.{stats_set}
use Rattle.hevc_rules.specs.CoeffsAgree.{hides}
use Rattle.hevc_rules.specs.CoeffsLaws.{base_few, number_few, hidden_few, sb_few}
use Rattle.hevc_coeffs_pen.specs.CoeffsPuts.{start_fine, coeffs_put}
use Rattle.hevc_coeffs_pen.proofs.coeffs.put_coeffs.Goals as goal

pub put_greater1-g-requires : goal.put_greater1-g-requires
put_greater1-g-requires c =
    let a = c.args in (
      c.requires.4,
      base_few a.p.luma a.ctxset c.greater1_base.result c.greater1_base.ensures c.requires.3,
      c.eight-n.ensures,
    )

pub put_flag_if-a-requires : goal.put_flag_if-a-requires
put_flag_if-a-requires c =
    let a = c.args in
    number_few a.p.luma a.ctxset c.greater2_number.result c.greater2_number.ensures c.requires.3

pub hidden-requires : goal.hidden-requires
hidden-requires c = (
  c.requires.4,
  c.requires.5,
)

pub overflow_sub-coded : goal.overflow_sub-coded
overflow_sub-coded c =
    let a = c.args in
    hidden_few (hides a.p a.h.skip a.h.rdpcm a.s) c.hidden.result a.s.count c.hidden.ensures c.requires.5

pub signs_of-requires : goal.signs_of-requires
signs_of-requires c =
    let a = c.args in (
      c.requires.4,
      omega arith,
    )

pub put_bits-c-requires : goal.put_bits-c-requires
put_bits-c-requires c =
    let a = c.args in (
      omega (arith, c.requires.4.few),
      c.signs_of.ensures.0,
    )

pub bounds-stats-sb : goal.bounds-stats-sb
bounds-stats-sb c = sb_few c.sb_type-sb.result c.args.p.luma (skip_or_bypass c.args.p c.args.h.skip) c.sb_type-sb.ensures

pub put_levels-l-requires : goal.put_levels-l-requires
put_levels-l-requires c =
    let a = c.args in (
      c.requires.0,
      c.requires.1,
      start_fine a.p a.s c.put_greater1-g.result.mask c.eight-n.result c.hidden.result c.rice_start.result _ a.stats.now
          c.sb_type-sb.result c.requires.4 c.put_greater1-g.ensures.0 c.eight-n.ensures refl c.requires.2
          c.rice_start.ensures,
    )

pub bounds-stats-sb-2 : goal.bounds-stats-sb-2
bounds-stats-sb-2 c =
    sb_few c.sb_type-sb.result c.args.p.luma (skip_or_bypass c.args.p c.args.h.skip)
    c.sb_type-sb.ensures

pub shape_of-room : goal.shape_of-room
shape_of-room c = c.room-5-1.given ∙ c.room-4-1.given ∙ c.room-3-1.given ∙ c.room-2-1.given ∙ c.room-1.given

pub returns : goal.returns
returns c =
    let a = c.args in (
      c.put_greater1-g.ensures.1,
      stats_set a.stats.now c.sb_type-sb.result c.put_levels-l.result.going.stat c.requires.2 c.put_levels-l.ensures.0.stat,
      coeffs_put a.p a.h a.ctxset a.s a.levels.now a.stats.now c.requires.5 c.eight-n.result
          c.greater1_base.result c.greater2_number.result c.hidden.result
          c.sb_type-sb.result _ c.rice_start.result c.put_greater1-g.result.mask c.put_greater1-g.result.carry c.signs_of.result
          c.is_greater2-two.result c.aligns.result c.eight-n.ensures c.greater1_base.ensures
          c.put_greater1-g.ensures.0 c.greater2_number.ensures c.is_greater2-two.ensures.0 c.is_greater2-two.ensures.1
          c.aligns.ensures c.hidden.ensures c.signs_of.ensures.1 c.sb_type-sb.ensures refl
          c.rice_start.ensures _ _ _ _ _ _ c.put_greater1-g.ensures.2 c.put_flag_if-a.ensures c.put_align_if-b.ensures
          c.put_bits-c.ensures c.put_levels-l.result.going c.put_levels-l.ensures.1 _ refl,
    )

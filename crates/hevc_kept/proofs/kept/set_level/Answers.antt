use Rattle.hevc_summary.specs.Entries.{level_refusal}
use lib.ListN.{length-set}
use Rattle.hevc_summary.specs.Agree.{kept_of}
use mir.Facts.{to_z-of_z}
use mathlib.Core.Path.{sym, ap, ◌∙◌}
use Rattle.hevc_summary.specs.EntryLaws.{form_passed, same_frame, set_promised}
use native.Mathlib.Omega.{arith}
use Rattle.hevc_summary.specs.CodeLaws.{set_unformed, set_outside, set_far, set_done, set_passes, set_own, area_most, sub_size}
use Rattle.hevc_kept.proofs.kept.set_level.Goals as goal

pub returns-then-n-ne0 : goal.returns-then-n-ne0
returns-then-n-ne0 c =
    let a = c.args in (
      set_unformed a.f a.levels.now a.counts.now a.sums.now a.whole a.place a.v c.form_refusal-n.result
          c.form_refusal-n.ensures c.if-n-ne0.true,
      λ t. t,
      same_frame a.f.log2 a.place _,
    )

pub area_of-requires : goal.area_of-requires
area_of-requires c =
    let a = c.args in
    let z = sym c.if-n-ne0.false ∙ c.form_refusal-n.ensures in
    let p = form_passed a.f a.levels.now z in
    (p.least, p.most)

pub returns-then-area_of-place : goal.returns-then-area_of-place
returns-then-area_of-place c =
    let a = c.args in
    let z = sym c.if-n-ne0.false ∙ c.form_refusal-n.ensures in (
      set_outside a.f a.levels.now a.counts.now a.sums.now a.whole a.place a.v z c.area_of.result c.area_of.ensures
          c.if-area_of-place.true,
      λ t. t,
      same_frame a.f.log2 a.place _,
    )

pub level_refusal-m-requires : goal.level_refusal-m-requires
level_refusal-m-requires c =
    let a = c.args in
    let z = sym c.if-n-ne0.false ∙ c.form_refusal-n.ensures in
    let p = form_passed a.f a.levels.now z in
    p.high

pub returns-then-m-ne0 : goal.returns-then-m-ne0
returns-then-m-ne0 c =
    let a = c.args in
    let z = sym c.if-n-ne0.false ∙ c.form_refusal-n.ensures in (
      set_far a.f a.levels.now a.counts.now a.sums.now a.whole a.place a.v z c.area_of.result c.area_of.ensures
          c.if-area_of-place.false c.level_refusal-m.result (c.level_refusal-m.ensures ∙ ap (λ z. level_refusal a.f z) (to_z-of_z c.ranges.v))
          c.if-m-ne0.true,
      λ t. t,
      same_frame a.f.log2 a.place _,
    )

pub offset_bounds-levels-place : goal.offset_bounds-levels-place
offset_bounds-levels-place c =
    let a = c.args in
    let z = sym c.if-n-ne0.false ∙ c.form_refusal-n.ensures in
    let p = form_passed a.f a.levels.now z in
    omega (arith, c.if-area_of-place.false, c.area_of.ensures, area_most _ p.least p.most)

pub bounds-levels-place : goal.bounds-levels-place
bounds-levels-place c =
    let a = c.args in
    let z = sym c.if-n-ne0.false ∙ c.form_refusal-n.ensures in
    let p = form_passed a.f a.levels.now z in
    omega (arith, c.if-area_of-place.false, c.area_of.ensures, p.long)

pub sub_of-sub-requires : goal.sub_of-sub-requires
sub_of-sub-requires c =
    let a = c.args in
    let z = sym c.if-n-ne0.false ∙ c.form_refusal-n.ensures in
    let p = form_passed a.f a.levels.now z in
    (p.least, p.most, omega (arith, c.if-area_of-place.false, c.area_of.ensures))

pub count_in-t-requires : goal.count_in-t-requires
count_in-t-requires c =
    let a = c.args in
    let z = sym c.if-n-ne0.false ∙ c.form_refusal-n.ensures in
    let p = form_passed a.f a.levels.now z in
    (p.least, p.most, c.sub_of-sub.ensures.1, rw length-set p.long)

pub offset_bounds-counts-sub : goal.offset_bounds-counts-sub
offset_bounds-counts-sub c =
    let a = c.args in
    let z = sym c.if-n-ne0.false ∙ c.form_refusal-n.ensures in
    let p = form_passed a.f a.levels.now z in
    omega (arith, c.sub_of-sub.ensures.1, sub_size a.f p.least p.most)

pub bounds-counts-sub : goal.bounds-counts-sub
bounds-counts-sub c =
    let a = c.args in
    let z = sym c.if-n-ne0.false ∙ c.form_refusal-n.ensures in
    let p = form_passed a.f a.levels.now z in
    omega (arith, c.sub_of-sub.ensures.1, sub_size a.f p.least p.most)

pub offset_bounds-sums-sub : goal.offset_bounds-sums-sub
offset_bounds-sums-sub c =
    let a = c.args in
    let z = sym c.if-n-ne0.false ∙ c.form_refusal-n.ensures in
    let p = form_passed a.f a.levels.now z in
    omega (arith, c.sub_of-sub.ensures.1, sub_size a.f p.least p.most)

pub bounds-sums-sub : goal.bounds-sums-sub
bounds-sums-sub c =
    let a = c.args in
    let z = sym c.if-n-ne0.false ∙ c.form_refusal-n.ensures in
    let p = form_passed a.f a.levels.now z in
    omega (arith, c.sub_of-sub.ensures.1, sub_size a.f p.least p.most)

pub whole_of-made-requires : goal.whole_of-made-requires
whole_of-made-requires c =
    let a = c.args in
    let z = sym c.if-n-ne0.false ∙ c.form_refusal-n.ensures in
    let p = form_passed a.f a.levels.now z in
    (p.least, p.most, omega arith, omega arith)

pub returns : goal.returns
returns c =
    let a = c.args in
    let z = sym c.if-n-ne0.false ∙ c.form_refusal-n.ensures in
    let i = c.if-area_of-place.false in
    let v = to_z-of_z c.ranges.v in
    let l = sym c.if-m-ne0.false ∙ c.level_refusal-m.ensures ∙ ap (λ z. level_refusal a.f z) v in
    let e = set_done a.f a.levels.now a.counts.now a.sums.now a.whole a.place a.v z c.area_of.result c.area_of.ensures i l _ v
    c.sub_of-sub.result c.count_in-t.result.count c.count_in-t.result.sum c.sub_of-sub.ensures.0 c.count_in-t.ensures.0 c.count_in-t.ensures.1 c.whole_of-made.result c.whole_of-made.ensures in
    let q = set_passes a.f a.levels.now a.counts.now a.sums.now a.whole a.place a.v z c.area_of.result c.area_of.ensures i l in
    let o = set_own a.f.log2 a.levels.now a.place a.v _ c.sub_of-sub.result c.count_in-t.result.sum v c.sub_of-sub.ensures.0 c.count_in-t.ensures.1 c.count_in-t.ensures.2 in
    let g = set_promised a.f a.place a.v (kept_of a.levels.now a.counts.now a.sums.now a.whole) _ e q o
    (omega (arith, length-set a.counts.now c.sub_of-sub.result c.count_in-t.result.count))
    (omega (arith, length-set a.sums.now c.sub_of-sub.result c.count_in-t.result.sum)) in
    (e, g.0, g.1)

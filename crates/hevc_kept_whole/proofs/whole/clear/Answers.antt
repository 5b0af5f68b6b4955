use mathlib.Core.Path.{sym, ◌∙◌}
use native.Mathlib.Omega.{arith}
use Rattle.hevc_summary.specs.TrueLaws.{fresh_true}
use Rattle.hevc_summary.specs.EntryLaws.{form_passed, refused_keeps, fresh_keeps}
use Rattle.hevc_summary.specs.CodeLaws.{clear_refused, clear_done, zeros_length}
use Rattle.hevc_kept_whole.proofs.whole.clear.Goals as goal

pub returns-then-n-ne0 : goal.returns-then-n-ne0
returns-then-n-ne0 c =
    let a = c.args in
    (clear_refused a.f a.levels.now a.counts.now a.sums.now a.whole c.form_refusal-n.result c.form_refusal-n.ensures c.if-n-ne0.true, refused_keeps a.f.log2 c.form_refusal-n.result _ c.if-n-ne0.true)

pub area_of-requires : goal.area_of-requires
area_of-requires c = let a = c.args in let p = form_passed a.f a.levels.now (sym c.if-n-ne0.false ∙ c.form_refusal-n.ensures) in (p.least, p.most)

pub zero-requires : goal.zero-requires
zero-requires c =
    let a = c.args in
    let p = form_passed a.f a.levels.now (sym c.if-n-ne0.false ∙ c.form_refusal-n.ensures) in
    omega (arith, p.long, c.area_of.ensures)

pub count_all-after-requires : goal.count_all-after-requires
count_all-after-requires c =
    let a = c.args in
    let p = form_passed a.f a.levels.now (sym c.if-n-ne0.false ∙ c.form_refusal-n.ensures) in
    (p.least, p.most, omega (arith, p.long, zeros_length _ _ c.zero.new.levels c.zero.ensures))

pub returns : goal.returns
returns c =
    let a = c.args in
    let p = form_passed a.f a.levels.now (sym c.if-n-ne0.false ∙ c.form_refusal-n.ensures) in (
      clear_done a.f a.levels.now a.counts.now a.sums.now a.whole (sym c.if-n-ne0.false ∙ c.form_refusal-n.ensures) c.area_of.result c.area_of.ensures c.zero.new.levels c.zero.ensures c.count_all-after.new.counts c.count_all-after.new.sums c.count_all-after.result c.count_all-after.ensures.0 c.count_all-after.ensures.1 c.count_all-after.ensures.2,
      fresh_keeps a.f.log2 _ _ (fresh_true a.f.log2 p.least p.most c.zero.new.levels a.counts.now a.sums.now c.count_all-after.ensures.3 c.count_all-after.new.counts c.count_all-after.new.sums c.count_all-after.result c.count_all-after.ensures.0 c.count_all-after.ensures.1 c.count_all-after.ensures.2 c.count_all-after.ensures.4 c.count_all-after.ensures.5),
    )

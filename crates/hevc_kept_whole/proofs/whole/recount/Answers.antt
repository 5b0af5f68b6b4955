use mathlib.Core.Path.{sym, ◌∙◌}
use Rattle.hevc_summary.specs.TrueLaws.{fresh_true}
use Rattle.hevc_summary.specs.EntryLaws.{form_passed, refused_keeps, fresh_keeps}
use Rattle.hevc_summary.specs.CodeLaws.{recount_refused, recount_done}
use Rattle.hevc_kept_whole.proofs.whole.recount.Goals as goal

pub returns-then-n-ne0 : goal.returns-then-n-ne0
returns-then-n-ne0 c =
    let a = c.args in
    (recount_refused a.f a.levels.now a.counts.now a.sums.now a.whole c.form_refusal-n.result c.form_refusal-n.ensures c.if-n-ne0.true, refused_keeps a.f.log2 c.form_refusal-n.result _ c.if-n-ne0.true)

pub count_all-after-requires : goal.count_all-after-requires
count_all-after-requires c =
    let a = c.args in
    let p = form_passed a.f a.levels.now (sym c.if-n-ne0.false ∙ c.form_refusal-n.ensures) in
    (p.least, p.most, p.long)

pub returns : goal.returns
returns c =
    let a = c.args in
    let p = form_passed a.f a.levels.now (sym c.if-n-ne0.false ∙ c.form_refusal-n.ensures) in (
      recount_done a.f a.levels.now a.counts.now a.sums.now a.whole (sym c.if-n-ne0.false ∙ c.form_refusal-n.ensures) c.count_all-after.new.counts c.count_all-after.new.sums c.count_all-after.result c.count_all-after.ensures.0 c.count_all-after.ensures.1 c.count_all-after.ensures.2,
      fresh_keeps a.f.log2 _ _ (fresh_true a.f.log2 p.least p.most a.levels.now a.counts.now a.sums.now c.count_all-after.ensures.3 c.count_all-after.new.counts c.count_all-after.new.sums c.count_all-after.result c.count_all-after.ensures.0 c.count_all-after.ensures.1 c.count_all-after.ensures.2 c.count_all-after.ensures.4 c.count_all-after.ensures.5),
    )

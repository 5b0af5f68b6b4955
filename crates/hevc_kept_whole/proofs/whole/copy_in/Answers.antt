use Prim.Native.Nat.{◌^◌}
use mathlib.Core.Path.{sym, ap, ◌∙◌}
use native.Mathlib.Omega.{arith}
use Rattle.hevc_summary.specs.TrueLaws.{fresh_true}
use Rattle.hevc_summary.specs.EntryLaws.{copy_passed, refused_keeps, fresh_keeps}
use Rattle.hevc_summary.specs.CodeLaws.{copy_refused, copy_done, copied_length}
use Rattle.hevc_kept_whole.proofs.whole.copy_in.Goals as goal

pub returns-then-n-ne0 : goal.returns-then-n-ne0
returns-then-n-ne0 c =
    let a = c.args in
    (copy_refused a.f a.g a.from.now a.levels.now a.counts.now a.sums.now a.whole c.copy_refusal-n.result c.copy_refusal-n.ensures c.if-n-ne0.true, refused_keeps a.f.log2 c.copy_refusal-n.result _ c.if-n-ne0.true)

pub area_of-requires : goal.area_of-requires
area_of-requires c = let a = c.args in let p = (copy_passed a.f a.g a.from.now a.levels.now (sym c.if-n-ne0.false ∙ c.copy_refusal-n.ensures)).to in (p.least, p.most)

pub copy-requires : goal.copy-requires
copy-requires c =
    let a = c.args in
    let q = copy_passed a.f a.g a.from.now a.levels.now (sym c.if-n-ne0.false ∙ c.copy_refusal-n.ensures) in
    (omega (arith, q.to.long, c.area_of.ensures), omega (arith, q.other.long, ap (λ k. 4 ^ k) q.size, c.area_of.ensures))

pub count_all-after-requires : goal.count_all-after-requires
count_all-after-requires c =
    let a = c.args in
    let p = (copy_passed a.f a.g a.from.now a.levels.now (sym c.if-n-ne0.false ∙ c.copy_refusal-n.ensures)).to in
    (p.least, p.most, omega (arith, p.long, copied_length _ _ _ c.copy.new.levels c.copy.ensures))

pub returns : goal.returns
returns c =
    let a = c.args in
    let p = (copy_passed a.f a.g a.from.now a.levels.now (sym c.if-n-ne0.false ∙ c.copy_refusal-n.ensures)).to in (
      copy_done a.f a.g a.from.now a.levels.now a.counts.now a.sums.now a.whole (sym c.if-n-ne0.false ∙ c.copy_refusal-n.ensures) c.area_of.result c.area_of.ensures c.copy.new.levels c.copy.ensures c.count_all-after.new.counts c.count_all-after.new.sums c.count_all-after.result c.count_all-after.ensures.0 c.count_all-after.ensures.1 c.count_all-after.ensures.2,
      fresh_keeps a.f.log2 _ _ (fresh_true a.f.log2 p.least p.most c.copy.new.levels a.counts.now a.sums.now c.count_all-after.ensures.3 c.count_all-after.new.counts c.count_all-after.new.sums c.count_all-after.result c.count_all-after.ensures.0 c.count_all-after.ensures.1 c.count_all-after.ensures.2 c.count_all-after.ensures.4 c.count_all-after.ensures.5),
    )

use mathlib.Core.Path.{◌≡◌, sym, ap, ◌∙◌}
use mathlib.Core.Bool.{false}
use lib.IntN.{ℤ}
use mathlib.Core.List.{List}
use native.Mathlib.Omega.{arith}
use Rattle.hevc_residual.specs.Entries.{Found}
use Rattle.hevc_summary.specs.Entries.{touched}
use Rattle.hevc_summary.specs.Agree.{kept_of, list_says}
use Rattle.hevc_summary.specs.TrueLaws.{fresh_true}
use Rattle.hevc_summary.specs.EntryLaws.{form_passed, block_passed, block_low, low_keeps, not_keeps, fresh_keeps}
use Rattle.hevc_summary.specs.ReadLaws.{list_refused, list_came, list_unmoved, list_not}
use Rattle.hevc_kept_reader.proofs.reading.read_kept_bins.Goals as goal

pub returns-then-n-ne0 : goal.returns-then-n-ne0
returns-then-n-ne0 c =
    let a = c.args in
    (list_refused a.f a.bytes.now a.stats.now a.p a.levels.now a.counts.now a.sums.now a.whole c.block_refusal-n.result c.block_refusal-n.ensures c.if-n-ne0.true, low_keeps Found a.f.log2 c.block_refusal-n.result _ _ c.block_refusal-n.ensures (block_low a.f a.p a.levels.now))

pub count_all-after-requires : goal.count_all-after-requires
count_all-after-requires c =
    let a = c.args in
    let pass = sym c.if-n-ne0.false ∙ c.block_refusal-n.ensures in
    let p = form_passed a.f a.levels.now (block_passed a.f a.p a.levels.now pass) in
    (p.least, p.most, omega (arith, p.long))

pub returns-then-list_came : goal.returns-then-list_came
returns-then-list_came c =
    let a = c.args in
    let pass = sym c.if-n-ne0.false ∙ c.block_refusal-n.ensures in
    let p = form_passed a.f a.levels.now (block_passed a.f a.p a.levels.now pass) in (
      list_came a.f a.bytes.now a.stats.now a.p a.levels.now a.counts.now a.sums.now a.whole pass c.read_bins-read.result c.read_bins-read.new.stats c.read_bins-read.new.block c.read_bins-read.ensures
          (sym c.list_came.ensures ∙ c.if-list_came.true) c.count_all-after.new.counts c.count_all-after.new.sums c.count_all-after.result c.count_all-after.ensures.0 c.count_all-after.ensures.1 c.count_all-after.ensures.2,
      fresh_keeps a.f.log2 _ _ (fresh_true a.f.log2 p.least p.most c.read_bins-read.new.block a.counts.now a.sums.now c.count_all-after.ensures.3 c.count_all-after.new.counts c.count_all-after.new.sums c.count_all-after.result c.count_all-after.ensures.0 c.count_all-after.ensures.1 c.count_all-after.ensures.2 c.count_all-after.ensures.4 c.count_all-after.ensures.5),
    )

pub returns : goal.returns
returns c =
    let a = c.args in
    let pass = sym c.if-n-ne0.false ∙ c.block_refusal-n.ensures in
    let t : touched (list_says c.read_bins-read.result) ≡ false = sym c.list_came.ensures ∙ c.if-list_came.false in
    let u = list_unmoved a.f a.bytes.now a.stats.now a.p a.levels.now a.counts.now a.sums.now a.whole pass c.read_bins-read.result c.read_bins-read.new.stats c.read_bins-read.new.block c.read_bins-read.ensures t in (
      list_not a.f a.bytes.now a.stats.now a.p a.levels.now a.counts.now a.sums.now a.whole pass c.read_bins-read.result c.read_bins-read.new.stats c.read_bins-read.new.block c.read_bins-read.ensures t,
      not_keeps a.f.log2 (list_says c.read_bins-read.result) _ _ t (ap (λ (z : List ℤ). kept_of z a.counts.now a.sums.now a.whole) (sym u)),
    )

use mathlib.Core.Path.{◌≡◌, sym, ap, ◌∙◌}
use mathlib.Core.Bool.{false}
use lib.IntN.{ℤ}
use mathlib.Core.List.{List}
use native.Mathlib.Omega.{arith}
use Rattle.hevc_residual.specs.Entries.{FoundAt}
use Rattle.hevc_summary.specs.Entries.{touched}
use Rattle.hevc_summary.specs.Agree.{kept_of, read_says}
use Rattle.hevc_summary.specs.TrueLaws.{fresh_true}
use Rattle.hevc_summary.specs.EntryLaws.{form_passed, read_passed, read_low, low_keeps, not_keeps, fresh_keeps}
use Rattle.hevc_summary.specs.ReadLaws.{read_refused, read_came, read_unmoved, read_not}
use Rattle.hevc_kept_reader.proofs.reading.read_kept.Goals as goal

pub returns-then-n-ne0 : goal.returns-then-n-ne0
returns-then-n-ne0 c =
    let a = c.args in
    (read_refused a.f a.bytes.now a.e a.contexts.now a.stats.now a.p a.levels.now a.counts.now a.sums.now a.whole c.read_refusal-n.result c.read_refusal-n.ensures c.if-n-ne0.true, low_keeps FoundAt a.f.log2 c.read_refusal-n.result _ _ c.read_refusal-n.ensures (read_low a.f a.p a.levels.now a.bytes.now))

pub count_all-after-requires : goal.count_all-after-requires
count_all-after-requires c =
    let a = c.args in
    let pass = sym c.if-n-ne0.false ∙ c.read_refusal-n.ensures in
    let p = form_passed a.f a.levels.now (read_passed a.f a.p a.levels.now a.bytes.now pass) in
    (p.least, p.most, omega (arith, p.long))

pub returns-then-read_came : goal.returns-then-read_came
returns-then-read_came c =
    let a = c.args in
    let pass = sym c.if-n-ne0.false ∙ c.read_refusal-n.ensures in
    let p = form_passed a.f a.levels.now (read_passed a.f a.p a.levels.now a.bytes.now pass) in (
      read_came a.f a.bytes.now a.e a.contexts.now a.stats.now a.p a.levels.now a.counts.now a.sums.now a.whole pass c.residual_coding-read.result c.residual_coding-read.new.contexts c.residual_coding-read.new.stats c.residual_coding-read.new.block c.residual_coding-read.ensures
          (sym c.read_came.ensures ∙ c.if-read_came.true) c.count_all-after.new.counts c.count_all-after.new.sums c.count_all-after.result c.count_all-after.ensures.0 c.count_all-after.ensures.1 c.count_all-after.ensures.2,
      fresh_keeps a.f.log2 _ _ (fresh_true a.f.log2 p.least p.most c.residual_coding-read.new.block a.counts.now a.sums.now c.count_all-after.ensures.3 c.count_all-after.new.counts c.count_all-after.new.sums c.count_all-after.result c.count_all-after.ensures.0 c.count_all-after.ensures.1 c.count_all-after.ensures.2 c.count_all-after.ensures.4 c.count_all-after.ensures.5),
    )

pub returns : goal.returns
returns c =
    let a = c.args in
    let pass = sym c.if-n-ne0.false ∙ c.read_refusal-n.ensures in
    let t : touched (read_says c.residual_coding-read.result) ≡ false = sym c.read_came.ensures ∙ c.if-read_came.false in
    let u = read_unmoved a.f a.bytes.now a.e a.contexts.now a.stats.now a.p a.levels.now a.counts.now a.sums.now a.whole pass c.residual_coding-read.result c.residual_coding-read.new.contexts c.residual_coding-read.new.stats c.residual_coding-read.new.block c.residual_coding-read.ensures t in (
      read_not a.f a.bytes.now a.e a.contexts.now a.stats.now a.p a.levels.now a.counts.now a.sums.now a.whole pass c.residual_coding-read.result c.residual_coding-read.new.contexts c.residual_coding-read.new.stats c.residual_coding-read.new.block c.residual_coding-read.ensures t,
      not_keeps a.f.log2 (read_says c.residual_coding-read.result) _ _ t (ap (λ (z : List ℤ). kept_of z a.counts.now a.sums.now a.whole) (sym u)),
    )

use Rattle.hevc_summary.specs.CodeLaws.{form_short, form_fine}
use Rattle.hevc_summary.specs.CodeLaws.{form_small, form_large, form_narrow, form_wide, form_short, form_fine}
use Rattle.hevc_counts.proofs.counts.form_refusal.Goals as goal

pub returns-then-f-lt2 : goal.returns-then-f-lt2
returns-then-f-lt2 c = form_small c.args.f c.args.levels.now c.if-f-lt2.true

pub returns-then-f-gt5 : goal.returns-then-f-gt5
returns-then-f-gt5 c = form_large c.args.f c.args.levels.now c.if-f-lt2.false c.if-f-gt5.true

pub returns-then-f-lt15 : goal.returns-then-f-lt15
returns-then-f-lt15 c = form_narrow c.args.f c.args.levels.now c.if-f-lt2.false c.if-f-gt5.false c.if-f-lt15.true

pub returns-then-f-gt22 : goal.returns-then-f-gt22
returns-then-f-gt22 c = form_wide c.args.f c.args.levels.now c.if-f-lt2.false c.if-f-gt5.false c.if-f-lt15.false c.if-f-gt22.true

pub returns-then-levels-area_of : goal.returns-then-levels-area_of
returns-then-levels-area_of c = form_short c.args.f c.args.levels.now c.if-f-lt2.false c.if-f-gt5.false c.if-f-lt15.false c.if-f-gt22.false c.area_of.result c.area_of.ensures c.if-levels-area_of.true

pub returns : goal.returns
returns c = form_fine c.args.f c.args.levels.now c.if-f-lt2.false c.if-f-gt5.false c.if-f-lt15.false c.if-f-gt22.false c.area_of.result c.area_of.ensures c.if-levels-area_of.false

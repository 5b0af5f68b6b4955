use mathlib.Core.Path.{sym, ◌∙◌}
use Rattle.hevc_residual.specs.LimitLaws.{parameter_passed}
use Rattle.hevc_summary.specs.ReadLaws.{block_first, block_second, block_third}
use Rattle.hevc_kept_checks.proofs.checks.block_refusal.Goals as goal

pub returns-then-a-ne0 : goal.returns-then-a-ne0
returns-then-a-ne0 c = let a = c.args in block_first a.f a.p a.levels.now c.parameter_refusal-a.result c.parameter_refusal-a.ensures c.if-a-ne0.true

pub returns-then-b-ne0 : goal.returns-then-b-ne0
returns-then-b-ne0 c =
    let a = c.args in
    block_second a.f a.p a.levels.now (sym c.if-a-ne0.false ∙ c.parameter_refusal-a.ensures) c.form_refusal-b.result c.form_refusal-b.ensures c.if-b-ne0.true

pub other_form-requires : goal.other_form-requires
other_form-requires c =
    let a = c.args in
    (parameter_passed a.p a.levels.now (sym c.if-a-ne0.false ∙ c.parameter_refusal-a.ensures)).0.depth

pub returns : goal.returns
returns c =
    let a = c.args in
    block_third a.f a.p a.levels.now (sym c.if-a-ne0.false ∙ c.parameter_refusal-a.ensures) (sym c.if-b-ne0.false ∙ c.form_refusal-b.ensures) c.other_form.result c.other_form.ensures

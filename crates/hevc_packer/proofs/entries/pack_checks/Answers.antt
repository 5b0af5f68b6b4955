use mathlib.Core.Path.{sym, ap, ◌∙◌}
use Rattle.hevc_residual.specs.Numbers.{parameter_refusal}
use Rattle.hevc_packer.specs.EntryCode.{checks_first, checks_second, checks_third}
use Rattle.hevc_packer.proofs.entries.pack_checks.Goals as goal

pub returns-then-a-ne0 : goal.returns-then-a-ne0
returns-then-a-ne0 c =
    let a = c.args in
    checks_first a.contexts.now a.stats.now a.p c.parameter_refusal-a.result (c.parameter_refusal-a.ensures ∙ ap (parameter_refusal a.p) c.requires) c.if-a-ne0.true

pub returns-then-b-ne0 : goal.returns-then-b-ne0
returns-then-b-ne0 c =
    let a = c.args in
    checks_second a.contexts.now a.stats.now a.p (sym c.if-a-ne0.false ∙ c.parameter_refusal-a.ensures ∙ ap (parameter_refusal a.p) c.requires) c.above_refusal-b.result c.above_refusal-b.ensures c.if-b-ne0.true

pub returns : goal.returns
returns c =
    let a = c.args in
    checks_third a.contexts.now a.stats.now a.p (sym c.if-a-ne0.false ∙ c.parameter_refusal-a.ensures ∙ ap (parameter_refusal a.p) c.requires) (sym c.if-b-ne0.false ∙ c.above_refusal-b.ensures) c.above_refusal.result c.above_refusal.ensures

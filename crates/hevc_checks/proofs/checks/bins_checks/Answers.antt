use mathlib.Core.Path.{sym, ◌∙◌}
use Rattle.hevc_checks.specs.ChecksLaws.{bins_first, bins_second}
use Rattle.hevc_checks.proofs.checks.bins_checks.Goals as goal

pub returns-then-a-ne0 : goal.returns-then-a-ne0
returns-then-a-ne0 c =
    let a = c.args in
    bins_first a.stats.now a.p a.block.now c.parameter_refusal-a.result c.parameter_refusal-a.ensures c.if-a-ne0.true

pub returns : goal.returns
returns c =
    let a = c.args in
    bins_second a.stats.now a.p a.block.now (sym c.if-a-ne0.false ∙ c.parameter_refusal-a.ensures) c.above_refusal.result c.above_refusal.ensures

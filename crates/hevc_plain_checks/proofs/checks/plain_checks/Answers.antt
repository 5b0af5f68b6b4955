use mathlib.Core.Path.{sym, ◌∙◌}
use Rattle.hevc_plain_checks.specs.PlainCode.{checks_first, checks_second}
use Rattle.hevc_plain_checks.proofs.checks.plain_checks.Goals as goal

pub returns-then-a-ne0 : goal.returns-then-a-ne0
returns-then-a-ne0 c = checks_first c.args.stats.now c.args.p c.args.block.now c.parameter_refusal-a.result c.parameter_refusal-a.ensures c.if-a-ne0.true

pub returns : goal.returns
returns c = checks_second c.args.stats.now c.args.p c.args.block.now (sym c.if-a-ne0.false ∙ c.parameter_refusal-a.ensures) c.plain_refusal.result c.plain_refusal.ensures

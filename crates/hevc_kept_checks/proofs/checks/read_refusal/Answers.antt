use mathlib.Core.Path.{sym, ◌∙◌}
use Rattle.hevc_summary.specs.ReadLaws.{read_first, read_rest}
use Rattle.hevc_kept_checks.proofs.checks.read_refusal.Goals as goal

pub returns-then-a-ne0 : goal.returns-then-a-ne0
returns-then-a-ne0 c = let a = c.args in read_first a.f a.p a.levels.now a.bytes.now c.payload_refusal-a.result c.payload_refusal-a.ensures c.if-a-ne0.true

pub returns : goal.returns
returns c =
    let a = c.args in
    read_rest a.f a.p a.levels.now a.bytes.now (sym c.if-a-ne0.false ∙ c.payload_refusal-a.ensures) c.block_refusal.result c.block_refusal.ensures

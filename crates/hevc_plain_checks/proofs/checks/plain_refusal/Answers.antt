use native.Mathlib.Omega.{arith}
use mathlib.Core.Path.{sym, ◌∙◌}
use Rattle.hevc_plain_checks.specs.PlainCode.{not_8, scan_wide, is_persistent, is_context, is_explicit, is_implicit, is_aligning, is_extended, statistics_on, all_plain}
use Rattle.hevc_plain_checks.proofs.checks.plain_refusal.Goals as goal

-- `plain_refusal` meets its contract. Assumes nothing.
pub returns-then-p-ne8 : goal.returns-then-p-ne8
returns-then-p-ne8 c = let a = c.args in not_8 a.p a.stats.now (λ z. omega (arith, z, c.if-p-ne8.true))

pub returns-then-scan_refusal-ne0 : goal.returns-then-scan_refusal-ne0
returns-then-scan_refusal-ne0 c =
    let a = c.args in
    scan_wide a.p a.stats.now (omega (arith, c.if-p-ne8.false)) c.scan_refusal.result c.scan_refusal.ensures c.if-scan_refusal-ne0.true

pub returns-then-p : goal.returns-then-p
returns-then-p c = let a = c.args in is_persistent a.p a.stats.now c.if-p.true

pub returns-then-p-2 : goal.returns-then-p-2
returns-then-p-2 c = let a = c.args in is_context a.p a.stats.now c.if-p-2.true

pub returns-then-p-3 : goal.returns-then-p-3
returns-then-p-3 c = let a = c.args in is_explicit a.p a.stats.now c.if-p-3.true

pub returns-then-p-4 : goal.returns-then-p-4
returns-then-p-4 c = let a = c.args in is_implicit a.p a.stats.now c.if-p-4.true

pub returns-then-p-5 : goal.returns-then-p-5
returns-then-p-5 c = let a = c.args in is_aligning a.p a.stats.now c.if-p-5.true

pub returns-then-p-6 : goal.returns-then-p-6
returns-then-p-6 c = let a = c.args in is_extended a.p a.stats.now c.if-p-6.true

pub returns-then-above_refusal-ne0 : goal.returns-then-above_refusal-ne0
returns-then-above_refusal-ne0 c =
    let a = c.args in
    statistics_on a.p a.stats.now (omega (arith, c.if-p-ne8.false)) (sym c.if-scan_refusal-ne0.false ∙ c.scan_refusal.ensures)
    c.if-p.false c.if-p-2.false c.if-p-3.false c.if-p-4.false c.if-p-5.false c.if-p-6.false c.above_refusal.result c.above_refusal.ensures c.if-above_refusal-ne0.true

pub returns : goal.returns
returns c =
    let a = c.args in
    all_plain a.p a.stats.now (omega (arith, c.if-p-ne8.false)) (sym c.if-scan_refusal-ne0.false ∙ c.scan_refusal.ensures)
    c.if-p.false c.if-p-2.false c.if-p-3.false c.if-p-4.false c.if-p-5.false c.if-p-6.false c.above_refusal.result c.above_refusal.ensures c.if-above_refusal-ne0.false

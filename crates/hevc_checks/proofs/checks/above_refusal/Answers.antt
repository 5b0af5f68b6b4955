use mathlib.Core.Path.{sym, ap, ◌∙◌}
use mathlib.Core.Bool.{cond}
use native.Mathlib.Omega.{arith}
use Rattle.hevc_checks.specs.ChecksLaws.{above_starts, above_on, above_ends}
use Rattle.hevc_checks.proofs.checks.above_refusal.Goals as goal

pub loop-byte-init : goal.loop-byte-init
loop-byte-init c = let a = c.args in above_starts a.most a.bytes.now

pub loop-byte-preserved : goal.loop-byte-preserved
loop-byte-preserved c =
    let a = c.args in
    above_on a.most a.bytes.now c.loop-byte.byte-index c.loop-byte.above (omega arith) c.loop-byte.invariant

pub returns-then-above : goal.returns-then-above
returns-then-above c =
    let a = c.args in
    sym (ap (λ b. cond b 3 0) c.if-above.true) ∙ above_ends a.most a.bytes.now c.loop-byte.byte-index c.loop-byte.above (omega arith) c.loop-byte.invariant

pub returns-else-above : goal.returns-else-above
returns-else-above c =
    let a = c.args in
    sym (ap (λ b. cond b 3 0) c.if-above.false) ∙ above_ends a.most a.bytes.now c.loop-byte.byte-index c.loop-byte.above (omega arith) c.loop-byte.invariant

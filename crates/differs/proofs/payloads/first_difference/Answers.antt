use Prim.Native.Nat.{ℕ, ◌*◌}
use mathlib.Core.Path.{ap, ◌∙◌}
use native.Mathlib.Omega.{arith}
use native.Mathlib.Nat.{sub-zero}
use Rattle.differs.specs.Differ.{first_from, look_on, look_found, look_end, ended_at}
use Rattle.differs.proofs.payloads.first_difference.Goals as goal

pub loop-i-init : goal.loop-i-init
loop-i-init c = ap (first_from c.args.a.now c.args.b.now 0) (sub-zero (8 * c.min-n.result))

pub returns-then-bit : goal.returns-then-bit
returns-then-bit c =
    let a = c.args in
    ended_at a.a.now a.b.now (8 * c.min-n.result) c.loop-i.i (ap (λ (k : ℕ). 8 * k) c.min-n.ensures) c.loop-i.invariant
    (look_found a.a.now a.b.now (8 * c.min-n.result) c.loop-i.i _ _ (omega arith) c.bit.ensures c.bit-in-loop-i.ensures c.if-bit.true)

pub loop-i-preserved : goal.loop-i-preserved
loop-i-preserved c =
    let a = c.args in
    look_on a.a.now a.b.now (8 * c.min-n.result) c.loop-i.i _ _ (omega arith) c.bit.ensures c.bit-in-loop-i.ensures c.if-bit.false ∙ c.loop-i.invariant

pub returns : goal.returns
returns c =
    let a = c.args in
    let n = 8 * c.min-n.result in
    omega (arith, ended_at a.a.now a.b.now n c.loop-i.i (ap (λ (k : ℕ). 8 * k) c.min-n.ensures) c.loop-i.invariant (look_end a.a.now a.b.now n c.loop-i.i (omega arith)))

use native.Mathlib.Omega.{arith}
use mathlib.Core.Path.{refl, ap₂, ◌∙◌}
use Prim.Native.Nat.{◌+◌, ◌/◌}
use lib.Dec.{eqb}
use Rattle.packing.specs.Pack.{widened}
use Rattle.packer_steps.specs.RegisterLaws.{next_few, left_within, decision_code}
use Rattle.packer_steps.proofs.coder.decision.Goals as goal

pub overflow_cast-ctx : goal.overflow_cast-ctx
overflow_cast-ctx c = let a = c.args in let h = c.requires in let v = eqb a.bin (a.ctx.now / 64) in omega (arith, next_few a.c a.ctx.now a.bin _ a.table.now h.0 h.1 h.2 h.3 refl v, c.pick-next.ensures)

pub overflow_add-c : goal.overflow_add-c
overflow_add-c c = let a = c.args in let h = c.requires in let v = eqb a.bin (a.ctx.now / 64) in omega (arith, (left_within a.c a.ctx.now a.bin _ a.table.now h.0 h.1 h.2 h.3 refl v).3, c.pick-below.ensures)

pub widen-requires : goal.widen-requires
widen-requires c = let a = c.args in let h = c.requires in let v = eqb a.bin (a.ctx.now / 64) in let k = left_within a.c a.ctx.now a.bin _ a.table.now h.0 h.1 h.2 h.3 refl v in let p = c.pick-below.ensures in let q = c.pick-left.ensures in (h.0, omega (arith, k.0), omega (arith, k.1), omega (arith, k.2))

pub returns : goal.returns
returns c = let a = c.args in let h = c.requires in let v = eqb a.bin (a.ctx.now / 64) in let k = decision_code a.c a.ctx.now a.bin _ a.table.now h.0 h.1 h.2 h.3 refl v refl _ (c.widen.ensures.0 ∙ ap₂ (λ x y. widened (a.c.low + x) y (a.c.bits + 1)) c.pick-below.ensures c.pick-left.ensures) in (k.0, c.pick-next.ensures ∙ k.1, c.widen.ensures.1)

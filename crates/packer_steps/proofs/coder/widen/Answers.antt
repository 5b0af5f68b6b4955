use native.Mathlib.Omega.{arith}
use mathlib.Core.Path.{refl}
use Rattle.packer_steps.specs.RegisterLaws.{shift_is, widen_code}
use Rattle.packer_steps.proofs.coder.widen.Goals as goal

pub overflow_sub-shift : goal.overflow_sub-shift
overflow_sub-shift c = let a = c.args in let h = c.requires in let k = shift_is a.c a.low a.range h.0 h.1 h.2 h.3 in omega (arith, k.0)

pub overflow_shl-result : goal.overflow_shl-result
overflow_shl-result c = let a = c.args in let h = c.requires in let k = shift_is a.c a.low a.range h.0 h.1 h.2 h.3 in omega (arith, k.1, k.2)

pub overflow_shl-result-2 : goal.overflow_shl-result-2
overflow_shl-result-2 c = let a = c.args in let h = c.requires in let k = shift_is a.c a.low a.range h.0 h.1 h.2 h.3 in omega (arith, k.1, k.2)

pub overflow_add-result : goal.overflow_add-result
overflow_add-result c = let a = c.args in let h = c.requires in let k = shift_is a.c a.low a.range h.0 h.1 h.2 h.3 in omega (arith, k.1, k.2, h.0.few)

pub returns : goal.returns
returns c = let a = c.args in let h = c.requires in (widen_code a.c a.low a.range h.0 h.1 h.2 h.3 _ refl, refl)

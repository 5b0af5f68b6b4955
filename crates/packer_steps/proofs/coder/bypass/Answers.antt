use native.Mathlib.Omega.{arith}
use mathlib.Core.Path.{refl}
use Rattle.packer_steps.specs.RegisterLaws.{steady_few, bypass_few, bypass_code}
use Rattle.packer_steps.proofs.coder.bypass.Goals as goal

pub overflow_mul-result : goal.overflow_mul-result
overflow_mul-result c = let a = c.args in omega (arith, steady_few a.c c.requires.0)

pub overflow_mul-result-2 : goal.overflow_mul-result-2
overflow_mul-result-2 c = let a = c.args in let h = c.requires in omega (arith, (bypass_few a.c a.bin h.0 h.1).0)

pub overflow_add-result : goal.overflow_add-result
overflow_add-result c = let a = c.args in let h = c.requires in omega (arith, (bypass_few a.c a.bin h.0 h.1).1)

pub returns : goal.returns
returns c = let a = c.args in (bypass_code a.c a.bin c.requires.1, refl)

use native.Mathlib.Omega.{arith}
use mathlib.Core.Path.{refl}
use Rattle.hevc_places.specs.PackingLaws.{times_bit, with_fits, with_is, appended_packs}
use Rattle.hevc_places.proofs.places.appended.Goals as goal

-- `appended` meets its contract. Assumes nothing.
pub overflow_mul-result : goal.overflow_mul-result
overflow_mul-result c = omega (arith, let a = c.args in let h = c.requires in times_bit a.s.packed a.s.count a.k a.b h.0.small h.1 h.2 h.3)

pub overflow_cast-result : goal.overflow_cast-result
overflow_cast-result c = omega (arith, let a = c.args in let h = c.requires in times_bit a.s.packed a.s.count a.k a.b h.0.small h.1 h.2 h.3)

pub overflow_add-result : goal.overflow_add-result
overflow_add-result c = omega (arith, let a = c.args in let h = c.requires in with_fits a.s.packed a.s.count a.k a.b h.0.small h.1 h.2 h.3)

pub returns : goal.returns
returns c = let a = c.args in let h = c.requires in (appended_packs a.s a.k a.b (omega (arith, h.1, h.3)) h.0 h.1 h.2 h.3, with_is a.s.packed a.s.count a.k a.b h.0.small h.1 h.2 h.3, refl)

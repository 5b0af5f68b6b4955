use native.Mathlib.Omega.{arith}
use Prim.Native.Nat.{ℕ, zero, suc, ◌≤◌}
use mathlib.Core.Path.{sym, ap, subst, ◌∙◌}
use lib.IntN.{pos, neg_ℤ, ◌-ℤ◌, +ℤ_idl}
use mir.Syntax.{w32}
use mir.Val.{SFits, to_z}
use mir.Facts.{to_z_pos}
use Rattle.press_text.proofs.rows.turned.Goals as goal

-- `turned` meets its contract. Assumes nothing.
negated_fits : (m : ℕ) → m ≤ 2147483647 → SFits w32 (neg_ℤ (pos m))
negated_fits zero h = record { sfits = omega arith }
negated_fits (suc m) h = record { sfits = omega arith }

minus_fits : (m : ℕ) → m ≤ 2147483647 → SFits w32 (pos 0 -ℤ to_z w32 m)
minus_fits m h = subst (SFits w32) (sym (ap (λ z. pos 0 -ℤ z) (to_z_pos w32 {n = m} (omega arith)) ∙ +ℤ_idl (neg_ℤ (pos m)))) (negated_fits m h)

pub overflow_sub-result : goal.overflow_sub-result
overflow_sub-result c = minus_fits c.args.m c.requires

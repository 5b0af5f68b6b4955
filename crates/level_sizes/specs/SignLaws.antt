-- Signs, and signed levels as the code makes them at 32 bits: an `i32` is an integer ℤ of `lib.IntN`, a cast to it is `to_z`, a store
-- `to_z (of_z ..)`. Assumes nothing.
use Rattle.std.specs.Prelude.{ℕ, zero, suc, ◌≤◌, ◌≡◌, refl, Bool, true, false, ℤ, pos, negsuc, neg_ℤ, ◌-ℤ◌}
use Rattle.std.proofs.Common.{subst, sym, ap, ◌∙◌, arith, le-ltb, SFits, to_z, of_z, to_z-of_z}
use Rattle.std.proofs.Math.IntN.{+ℤ_idl}
use Rattle.std.specs.Int.Signed.{lt_z}
use Rattle.std.specs.Int.{w32}
use Rattle.std.proofs.Math.Facts.{to_z_pos}
use Rattle.trees.specs.Levels.{negative, signed}

-- ---- a signed level, where m is a magnitude in range
negated : (m : ℕ) → neg_ℤ (pos m) ≡ signed true m
negated zero = refl
negated (suc m) = refl

minus : (m : ℕ) → m ≤ 4194304 → pos 0 -ℤ to_z w32 m ≡ signed true m
minus m h = ap (λ z. pos 0 -ℤ z) (to_z_pos w32 {n = m} (omega arith)) ∙ +ℤ_idl (neg_ℤ (pos m)) ∙ negated m

signed_fits : (m : ℕ) → m ≤ 4194304 → SFits w32 (signed true m)
signed_fits zero h = record { sfits = omega arith }
signed_fits (suc m) h = record { sfits = omega arith }

pub minus_fits : (m : ℕ) → m ≤ 4194304 → SFits w32 (pos 0 -ℤ to_z w32 m)
minus_fits m h = subst (SFits w32) (sym (minus m h)) (signed_fits m h)

pub minus_is : (b : Bool) (m : ℕ) → b ≡ true → m ≤ 4194304 → to_z w32 (of_z w32 (pos 0 -ℤ to_z w32 m)) ≡ signed b m
minus_is true m q h = to_z-of_z (minus_fits m h) ∙ minus m h
minus_is false m q h = let z : ◌≡◌ {A = ℕ} 0 1 = cc in absurd (omega arith)

pub plus_is : (b : Bool) (m : ℕ) → b ≡ false → m ≤ 4194304 → to_z w32 m ≡ signed b m
plus_is false m q h = to_z_pos w32 (omega arith)
plus_is true m q h = let z : ◌≡◌ {A = ℕ} 0 1 = cc in absurd (omega arith)

-- ---- a sign
pub negative_is : (z : ℤ) → lt_z z (pos 0) ≡ negative z
negative_is (pos n) = le-ltb n 0 (omega arith)
negative_is (negsuc n) = refl

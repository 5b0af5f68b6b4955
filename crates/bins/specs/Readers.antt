-- Small trees that any syntax is made of. B is what a writer wants read.
use Rattle.std.specs.Prelude.{ℕ, zero, suc, ◌+◌, ◌*◌, ◌/◌, ◌%◌, ◌^◌, Bool, true, false, eqb}
use Rattle.bins.specs.Engine.{bit_no}
use Rattle.bins.specs.Syn.{Syn, done, bin, bypass}

abbrev pub odd : ℕ → Bool
odd n = eqb (n % 2) 1

module _ {B : Type 0} where
  -- a bin with a context, where it is coded; else false
  abbrev pub flag_if : Bool → ℕ → (B → Bool) → Syn B Bool
  flag_if true c w = bin c w done
  flag_if false c w = done false

  -- n bypass bins as a number (fixed length, H.265 9.3.3.5), behind what stands already
  unfoldable pub bits_s : ℕ → ℕ → (B → ℕ) → Syn B ℕ
  bits_s zero v w = done v
  bits_s (suc n) v w = bypass (λ t. odd (w t / 2 ^ n)) (λ b. bits_s n (v * 2 + bit_no b) w)

  -- ones up to a greatest count, left at the first zero, counted on from g: bypass bins; a bin is wanted by the count before it
  unfoldable pub ones_s : ℕ → ℕ → (ℕ → B → Bool) → Syn B ℕ
  ones_s zero g w = done g
  ones_s (suc n) g w = bypass (w g) (λ b. elim b [ true ↦ ones_s n (suc g) w | false ↦ done g ])

  -- the same with contexts base + (g shifted right by sh)
  unfoldable pub prefix_s : ℕ → ℕ → ℕ → ℕ → (ℕ → B → Bool) → Syn B ℕ
  prefix_s base sh zero g w = done g
  prefix_s base sh (suc n) g w =
      bin (base + g / 2 ^ sh) (w g) (λ b. elim b [ true ↦ prefix_s base sh n (suc g) w | false ↦ done g ])

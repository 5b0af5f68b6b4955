-- Trees that count ones up to a greatest count, left at the first zero: one shape. Assumes nothing.
use Rattle.std.specs.Prelude.{ℕ, zero, suc, ◌+◌, ◌/◌, ◌^◌, ◌≡◌, Bool, true, false}
use Rattle.std.proofs.Math.Path.{refl}
use Rattle.bins.specs.Syn.{Syn, done, bin, bypass, ◌>>=◌}
use Rattle.bins.specs.Readers.{ones_s, prefix_s}
use Rattle.trees.specs.Shapes.{count_s}

-- T n g w counts up to n more from g on, by the flag one g
pub record Counter {B : Type 0} (T : ℕ → ℕ → (ℕ → B → Bool) → Syn B ℕ) (one : ℕ → (B → Bool) → Syn B Bool) : Type 0 where
  pub none : (g : ℕ) (w : ℕ → B → Bool) → T 0 g w ≡ done g
  pub more : (n g : ℕ) (w : ℕ → B → Bool) → T (suc n) g w ≡ (one g (w g) >>= λ b. elim b [ true ↦ T n (suc g) w | false ↦ done g ])

module _ {B : Type 0} where
  pub prefix_counter : (base sh : ℕ) → Counter {B = B} (λ n g w. prefix_s base sh n g w) (λ g w. bin (base + g / 2 ^ sh) w done)
  unfolding prefix_s ◌>>=◌
  prefix_counter base sh = record { none = λ g w. refl; more = λ n g w. refl }

  pub ones_counter : Counter {B = B} (λ n g w. ones_s n g w) (λ g w. bypass w done)
  unfolding ones_s ◌>>=◌
  ones_counter = record { none = λ g w. refl; more = λ n g w. refl }

  pub count_counter : (ctx : ℕ → ℕ) → Counter {B = B} (λ n g w. count_s ctx n g w) (λ g w. bin (ctx g) w done)
  unfolding count_s ◌>>=◌
  count_counter ctx = record { none = λ g w. refl; more = λ n g w. refl }

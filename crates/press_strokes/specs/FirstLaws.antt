-- Laws of a search for the first place of which a test holds. Assumes nothing.
use Rattle.std.specs.Prelude.{ℕ, ◌+◌, ◌≤◌, ◌<◌, ◌≡◌, refl, Bool, true, false, ltb}
use Rattle.std.proofs.Common.{arith, sym, ap, ◌∙◌, ltb-true, ltb-false}
use Rattle.press_strokes.specs.Advice.{First}

-- it holds of none below i
abbrev pub NoneBelow : (ℕ → Bool) → ℕ → Type 0
NoneBelow f i = (j : ℕ) → j < i → f j ≡ false

pub none_begins : (f : ℕ → Bool) → NoneBelow f 0
none_begins f j h = absurd (omega arith)

pub none_on : (f : ℕ → Bool) (i : ℕ) → NoneBelow f i → f i ≡ false → NoneBelow f (i + 1)
none_on f i h e j k = go (ltb j i) refl
  where
    go : (b : Bool) → ltb j i ≡ b → f j ≡ false
    go true q = h j (ltb-true j i q)
    go false q = let s : j ≡ i = omega (arith, ltb-false j i q) in ap f s ∙ e

pub first_found : (f : ℕ → Bool) (n i : ℕ) → NoneBelow f i → i < n → f i ≡ true → First f n i
first_found f n i h k e = record { within = omega arith; before = h; at = λ _. e }

pub first_none : (f : ℕ → Bool) (n i r : ℕ) → NoneBelow f i → i ≤ n → n ≤ i → r ≡ n → First f n r
first_none f n i r h a b e = record { within = omega arith; before = λ j k. h j (omega arith); at = λ k. absurd (omega arith) }

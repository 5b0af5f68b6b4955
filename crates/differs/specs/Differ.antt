-- Where two payloads begin to differ. Assumes nothing.
use Rattle.std.specs.Prelude.{ℕ, zero, suc, ◌+◌, ◌-◌, ◌*◌, ◌≤◌, ◌<◌, min, ◌≡◌, refl, Bool, true, false, cond, List, length, eqb, ltb}
use Rattle.std.proofs.Common.{sym, ap, subst, ◌∙◌, arith, eqb-true, eq-eqb, ne_eqb, ltb-true, ltb-false}
use Rattle.bins.specs.Bits.{bit_at, bits, ends}

-- the first bit from i on, among k, at which they differ; i + k if there is none
unfoldable pub first_from : List ℕ → List ℕ → ℕ → ℕ → ℕ
first_from l m i zero = i
first_from l m i (suc k) = cond (eqb (bit_at l i) (bit_at m i)) (first_from l m (suc i) k) i

-- the bits that both have
abbrev pub shared : List ℕ → List ℕ → ℕ
shared l m = 8 * min (length l) (length m)

-- the first bit at which they differ; where they agree as far as both go, the end of the shorter
unfoldable pub first_difference : List ℕ → List ℕ → ℕ
first_difference l m = first_from l m 0 (shared l m)

-- ---- what it says
from_fits : (l m : List ℕ) (k i : ℕ) → (i ≤ first_from l m i k) × (first_from l m i k ≤ i + k)
unfolding first_from
from_fits l m zero i = (omega arith, omega arith)
from_fits l m (suc k) i = go (eqb (bit_at l i) (bit_at m i)) (from_fits l m k (suc i))
  where
    go : (b : Bool) → (suc i ≤ first_from l m (suc i) k) × (first_from l m (suc i) k ≤ suc i + k)
        → (i ≤ cond b (first_from l m (suc i) k) i) × (cond b (first_from l m (suc i) k) i ≤ i + suc k)
    go true h = (omega (arith, h.0), omega (arith, h.1))
    go false h = (omega arith, omega arith)

from_agrees : (l m : List ℕ) (k i j : ℕ) → i ≤ j → j < first_from l m i k → bit_at l j ≡ bit_at m j
unfolding first_from
from_agrees l m zero i j h d = absurd (omega (arith, h, d))
from_agrees l m (suc k) i j h d = go (eqb (bit_at l i) (bit_at m i)) refl d (λ u v. from_agrees l m k (suc i) j u v)
  where
    later : (b : Bool) → ltb i j ≡ b → bit_at l i ≡ bit_at m i → (suc i ≤ j → bit_at l j ≡ bit_at m j) → bit_at l j ≡ bit_at m j
    later true q same f = f (omega (arith, ltb-true i j q))
    later false q same f = let e : i ≡ j = omega (arith, h, ltb-false i j q) in subst (λ (n : ℕ). bit_at l n ≡ bit_at m n) e same

    go : (b : Bool) → eqb (bit_at l i) (bit_at m i) ≡ b → j < cond b (first_from l m (suc i) k) i → (suc i ≤ j → j < first_from l m (suc i) k → bit_at l j ≡ bit_at m j)
        → bit_at l j ≡ bit_at m j
    go true q d f = later (ltb i j) refl (eqb-true (bit_at l i) (bit_at m i) q) (λ u. f u d)
    go false q d f = absurd (omega (arith, h, d))

pub difference_agrees : (l m : List ℕ) (j : ℕ) → j < first_difference l m → bit_at l j ≡ bit_at m j
unfolding first_difference
difference_agrees l m j d = from_agrees l m (shared l m) 0 j (omega arith) d

pub difference_fits : (l m : List ℕ) → (first_difference l m ≤ ends l) × (first_difference l m ≤ ends m)
unfolding first_difference
difference_fits l m = let h = (from_fits l m (shared l m) 0).1 in (omega (arith, h), omega (arith, h))

-- ---- the loop that looks for it
bit_one : (l : List ℕ) (i : ℕ) → bits l i 1 ≡ bit_at l i
unfolding bits
bit_one l i = let e : i + 0 ≡ i = omega arith in rw e (omega arith)

pub look_on : (l m : List ℕ) (n i x y : ℕ) → i < n → x ≡ bits l i 1 → y ≡ bits m i 1 → x ≡ y → first_from l m (i + 1) (n - (i + 1)) ≡ first_from l m i (n - i)
unfolding first_from
look_on l m n i x y h p q e =
    let k : n - i ≡ suc (n - (i + 1)) = omega arith in
    let s : i + 1 ≡ suc i = omega arith in
    let b : eqb (bit_at l i) (bit_at m i) ≡ true = eq-eqb (bit_at l i) (bit_at m i) (sym (bit_one l i) ∙ sym p ∙ e ∙ q ∙ bit_one m i) in
    rw (k, s, b) refl

pub look_found : (l m : List ℕ) (n i x y : ℕ) → i < n → x ≡ bits l i 1 → y ≡ bits m i 1 → (x ≡ y → ⊥) → i ≡ first_from l m i (n - i)
unfolding first_from
look_found l m n i x y h p q e =
    let k : n - i ≡ suc (n - (i + 1)) = omega arith in
    let b : eqb (bit_at l i) (bit_at m i) ≡ false = ne_eqb (bit_at l i) (bit_at m i) (λ z. e (p ∙ bit_one l i ∙ z ∙ sym (bit_one m i) ∙ sym q)) in
    rw (k, b) refl

pub look_end : (l m : List ℕ) (n i : ℕ) → n ≤ i → i ≡ first_from l m i (n - i)
unfolding first_from
look_end l m n i h = let k : n - i ≡ 0 = omega arith in rw k refl

pub ended_at : (l m : List ℕ) (n i : ℕ) → n ≡ shared l m → first_from l m i (n - i) ≡ first_from l m 0 n → i ≡ first_from l m i (n - i) → i ≡ first_difference l m
unfolding first_difference
ended_at l m n i s w f = f ∙ w ∙ ap (first_from l m 0) s

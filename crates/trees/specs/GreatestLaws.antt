-- The greatest magnitude, as the loop has it, and what it says of the levels. Assumes nothing.
use Rattle.std.specs.Prelude.{ℕ, zero, suc, ◌+◌, ◌≤◌, ◌<◌, max, ◌≡◌, refl, List, [], ◌∷◌, Bool, true, false, ℤ, pos, nat_abs, length, get_or, drop, take, ltb}
use Rattle.std.proofs.Common.{ap, arith, add-one, drop_of_length-le, drop-cons, ltb-true, ltb-false}
use Rattle.trees.specs.Levels.{greatest_of}

pub greatest_begins : (l : List ℤ) → max 0 (greatest_of (drop 0 l)) ≡ greatest_of l
greatest_begins l = omega arith

pub greatest_on : (l : List ℤ) (m i v : ℕ) → i < length l → max m (greatest_of (drop i l)) ≡ greatest_of l → v ≡ nat_abs (get_or l i (pos 0))
    → max (max m v) (greatest_of (drop (i + 1) l)) ≡ greatest_of l
unfolding greatest_of
greatest_on l m i v h q e =
    let d : drop i l ≡ get_or l i (pos 0) ∷ drop (suc i) l = drop-cons l i (pos 0) h in
    let g : greatest_of (drop i l) ≡ max (nat_abs (get_or l i (pos 0))) (greatest_of (drop (suc i) l)) = ap greatest_of d in
    rw (add-one i) (omega arith)

pub greatest_ends : (l : List ℤ) (m i : ℕ) → length l ≤ i → max m (greatest_of (drop i l)) ≡ greatest_of l → m ≡ greatest_of l
unfolding greatest_of
greatest_ends l m i h q = let d : drop i l ≡ [] = drop_of_length-le l h in let g : greatest_of (drop i l) ≡ 0 = ap greatest_of d in omega arith

-- ---- no level is greater, and one above 0 is met
pub greatest_most : (l : List ℤ) (j : ℕ) → nat_abs (get_or l j (pos 0)) ≤ greatest_of l
unfolding greatest_of
greatest_most [] j = omega arith
greatest_most (v ∷ l) zero = omega arith
greatest_most (v ∷ l) (suc j) = omega (arith, greatest_most l j)

pub record Level (l : List ℤ) : Type 0 where
  pub at : ℕ
  pub within : at < length l
  pub some : 0 < nat_abs (get_or l at (pos 0))

pub greatest_met : (l : List ℤ) → 0 < greatest_of l → Level l
unfolding greatest_of
greatest_met [] h = absurd (omega arith)
greatest_met (v ∷ l) h = go (ltb 0 (nat_abs v)) refl (λ k. greatest_met l k)
  where
    go : (d : Bool) → ltb 0 (nat_abs v) ≡ d → (0 < greatest_of l → Level l) → Level (v ∷ l)
    go true q ih = record { at = 0; within = omega arith; some = ltb-true 0 (nat_abs v) q }
    go false q ih =
        let m = ih (omega (arith, ltb-false 0 (nat_abs v) q)) in
        record { at = suc m.at; within = omega (arith, m.within); some = m.some }

-- where all beyond place k is zero, the places before it have the greatest
pub greatest_front : (l : List ℤ) (k : ℕ) → ((j : ℕ) → k ≤ j → nat_abs (get_or l j (pos 0)) ≡ 0) → greatest_of (take k l) ≡ greatest_of l
unfolding greatest_of
greatest_front [] zero h = refl
greatest_front [] (suc k) h = refl
greatest_front (v ∷ l) zero h = omega (arith, h 0 (omega arith), greatest_front l zero (λ j z. h (suc j) (omega arith)))
greatest_front (v ∷ l) (suc k) h = omega (arith, greatest_front l k (λ j z. h (suc j) (omega arith)))

-- A level by its sign and magnitude; what is told of several; levels stored at falling places. Assumes nothing.
use Rattle.std.specs.Prelude.{ℕ, zero, suc, ◌^◌, ◌≤◌, ◌<◌, ◌≡◌, refl, Bool, true, false, not, ◌&&◌, List, [], ◌∷◌, ltb, eqb, ℤ, pos, negsuc, nat_abs, length, get_or, set}
use Rattle.std.proofs.Common.{sym, ap, ◌∙◌, arith, pow_pos, length-set, get_or-set_same, get_or-set_other, ltb-true, leb-true, lt-ltb, ne_eqb}
use Rattle.std.proofs.lemmas.Bool.{eqb-false, not-false}
use Rattle.trees.specs.Levels.{negative, signed, in_range, all_zero, too_far}
use Rattle.trees.specs.ReaderLaws.{clash, or_false}
use Rattle.trees.specs.ListLaws.{All, all_map, Falling, falling_below, not_zero}

pub signed_of : (z : ℤ) → signed (negative z) (nat_abs z) ≡ z
signed_of (pos n) = refl
signed_of (negsuc n) = refl

pub signed_is : (neg : Bool) (m : ℕ) → 1 ≤ m → (nat_abs (signed neg m) ≡ m) × (negative (signed neg m) ≡ neg)
signed_is true zero h = absurd (omega arith)
signed_is true (suc m) h = (refl, refl)
signed_is false m h = (refl, refl)

pub zero_ranged : (t : ℕ) (z : ℤ) → ltb 0 (nat_abs z) ≡ false → in_range t (negative z) (nat_abs z) ≡ true
zero_ranged t z e = rw (not_zero z e) (lt-ltb 0 (2 ^ t) (pow_pos t))

-- ---- 9: some level is not zero
pub zero_false : (l : List ℤ) → all_zero l ≡ false → (c : ℕ) × (c < length l) × (ltb 0 (nat_abs (get_or l c (pos 0))) ≡ true)
unfolding all_zero
zero_false [] e = clash e refl
zero_false (v ∷ l) e = go (eqb (nat_abs v) 0) refl e (zero_false l)
  where
    go : (d : Bool) → eqb (nat_abs v) 0 ≡ d → (d && all_zero l) ≡ false
        → (all_zero l ≡ false → (c : ℕ) × (c < length l) × (ltb 0 (nat_abs (get_or l c (pos 0))) ≡ true))
        → (c : ℕ) × (c < length (v ∷ l)) × (ltb 0 (nat_abs (get_or (v ∷ l) c (pos 0))) ≡ true)
    go true q e r = let f = r e in (suc f.0, omega (arith, f.1), f.2)
    go false q e r = (0, omega arith, lt-ltb 0 (nat_abs v) (omega (arith, eqb-false (nat_abs v) 0 q)))

pub false_zero : (l : List ℤ) (c : ℕ) → c < length l → ltb 0 (nat_abs (get_or l c (pos 0))) ≡ true → all_zero l ≡ false
unfolding all_zero
false_zero [] c h e = absurd (omega arith)
false_zero (v ∷ l) zero h e = rw (ne_eqb (nat_abs v) 0 (λ q. omega (arith, ltb-true 0 (nat_abs v) e)))
false_zero (v ∷ l) (suc c) h e = rw (false_zero l c (omega arith) e) (and-false (eqb (nat_abs v) 0))
  where
    and-false : (d : Bool) → (d && false) ≡ false
    and-false true = refl
    and-false false = refl

-- ---- 8: every level is in range
pub far_false : (T : ℕ) (l : List ℤ) → too_far T l ≡ false → (c : ℕ) → c < length l
    → in_range T (negative (get_or l c (pos 0))) (nat_abs (get_or l c (pos 0))) ≡ true
unfolding too_far
far_false T [] e c h = absurd (omega arith)
far_false T (v ∷ l) e zero h = not-false (in_range T (negative v) (nat_abs v)) (or_false (not (in_range T (negative v) (nat_abs v))) (too_far T l) e).0
far_false T (v ∷ l) e (suc c) h = far_false T l (or_false (not (in_range T (negative v) (nat_abs v))) (too_far T l) e).1 c (omega arith)

range_near : (t : ℕ) (neg : Bool) (m : ℕ) → in_range t neg m ≡ true → m ≤ 2 ^ t
range_near t true m q = leb-true m (2 ^ t) q
range_near t false m q = omega (arith, ltb-true m (2 ^ t) q)

-- so each magnitude is at most 2^t, and beyond the levels there is none
pub near_all : (t : ℕ) (l : List ℤ) → too_far t l ≡ false → (i : ℕ) → nat_abs (get_or l i (pos 0)) ≤ 2 ^ t
unfolding too_far
near_all t [] q i = omega arith
near_all t (v ∷ l) q zero = range_near t (negative v) (nat_abs v) (far_false t (v ∷ l) q 0 (omega arith))
near_all t (v ∷ l) q (suc i) = near_all t l (or_false (not (in_range t (negative v) (nat_abs v))) (too_far t l) q).1 i

pub false_far : (T : ℕ) (l : List ℤ) → ((c : ℕ) → c < length l → in_range T (negative (get_or l c (pos 0))) (nat_abs (get_or l c (pos 0))) ≡ true) → too_far T l ≡ false
unfolding too_far
false_far T [] f = refl
false_far T (v ∷ l) f = rw (f 0 (omega arith), false_far T l (λ c h. f (suc c) (omega arith)))

-- ---- levels stored at places
abbrev pub Apart : ℕ → List ℕ → Type 0
Apart i ks = All (λ k. i ≡ k → ⊥) ks

pub falling_apart : (k : ℕ) (ks : List ℕ) → Falling k ks → Apart k ks
falling_apart k ks f = all_map ks (λ j h q. omega arith) (falling_below k ks f)

-- only levels at the places ks have changed
pub record Kept (l m : List ℤ) (ks : List ℕ) : Type 0 where
  pub same : (i : ℕ) → Apart i ks → get_or m i (pos 0) ≡ get_or l i (pos 0)
  pub long : length m ≡ length l

pub kept_none : (l : List ℤ) → Kept l l []
kept_none l = record { same = λ i a. refl; long = refl }

pub kept_set : (l m : List ℤ) (k : ℕ) (ks : List ℕ) (z : ℤ) → Kept (set l k z) m ks → Kept l m (k ∷ ks)
kept_set l m k ks z h = record {
  same = λ i a. h.same i a.1 ∙ get_or-set_other l k i z (pos 0) a.0;
  long = h.long ∙ length-set l k z;
}

-- and the level stored at k is still there
pub kept_at : (l m : List ℤ) (k : ℕ) (ks : List ℕ) (z : ℤ) → k < length l → Falling k ks → Kept (set l k z) m ks → get_or m k (pos 0) ≡ z
kept_at l m k ks z h f r = r.same k (falling_apart k ks f) ∙ get_or-set_same l k z (pos 0) h

-- What is refused of 16 levels, as its code finds it. Assumes nothing.
use Rattle.std.specs.Prelude.{ℕ, suc, ◌+◌, ◌≤◌, ◌<◌, ◌≡◌, refl, Bool, true, false, not, ◌&&◌, ◌||◌, ltb, eqb, ℤ, pos, negsuc, nat_abs, length}
use Rattle.std.proofs.Math.Path.{sym, ap}
use Rattle.std.proofs.Common.{◌∙◌, arith, add-one, drop_of_length-le, ltb-true, ltb-false, lt-ltb, le-ltb, le-leb, eq-eqb, eqb-true}
use mathlib.Core.List.{List, [], ◌∷◌}
use Rattle.std.proofs.Math.ListN.{get_or, drop}
use Rattle.std.proofs.Math.Seq.{drop-cons}
use Rattle.std.specs.List.{list_any}
use Rattle.std.specs.Int.Signed.{lt_z}
use Rattle.std.proofs.lemmas.Bool.{lt-leb}
use Rattle.trees.specs.Levels.{negative, in_range, greatest_of, all_zero, too_far}
use Rattle.h264_block.specs.Refusal.{write_refusal}

-- ---- 8, of one level
pub far_below : (z : ℤ) → lt_z z (negsuc 32767) ≡ true → true ≡ not (in_range 15 (negative z) (nat_abs z))
far_below (pos m) q = let y : ◌≡◌ {A = ℕ} 0 1 = cc in absurd (omega arith)
far_below (negsuc m) q = let h : 32767 < m = ltb-true 32767 m q in sym (ap not (lt-leb (suc m) 32768 (omega arith)))

pub far_above : (z : ℤ) → lt_z z (negsuc 32767) ≡ false → lt_z (pos 32767) z ≡ not (in_range 15 (negative z) (nat_abs z))
far_above (pos m) q = go (ltb m 32768) refl
  where
    go : (d : Bool) → ltb m 32768 ≡ d → ltb 32767 m ≡ not (ltb m 32768)
    go true e = let h = ltb-true m 32768 e in le-ltb 32767 m (omega arith) ∙ sym (ap not e)
    go false e = let h = ltb-false m 32768 e in lt-ltb 32767 m (omega arith) ∙ sym (ap not e)
far_above (negsuc m) q = let h : m ≤ 32767 = ltb-false 32767 m q in sym (ap not (le-leb (suc m) 32768 (omega arith)))

-- ---- of all
abbrev pub is_far : ℤ → Bool
is_far v = not (in_range 15 (negative v) (nat_abs v))

pub any_far : (l : List ℤ) → list_any is_far l ≡ too_far 15 l
unfolding too_far
any_far [] = refl
any_far (v ∷ l) = ap (λ (d : Bool). is_far v || d) (any_far l)

-- ---- of all, at place i
pub record Near (l : List ℤ) (i : ℕ) : Type 0 where
  pub few : i ≤ length l
  pub left : too_far 15 (drop i l) ≡ too_far 15 l

pub near_begins : (l : List ℤ) → Near l 0
near_begins l = record { few = omega arith; left = refl }

module _ (l : List ℤ) (i : ℕ) (z : Near l i) (h : i < length l) (far : Bool)
    (q : far ≡ not (in_range 15 (negative (get_or l i (pos 0))) (nat_abs (get_or l i (pos 0))))) where
  near_next : too_far 15 l ≡ (far || too_far 15 (drop (i + 1) l))
  unfolding too_far
  near_next =
      let d : drop i l ≡ get_or l i (pos 0) ∷ drop (suc i) l = drop-cons l i (pos 0) h in
      sym z.left ∙ ap (λ (m : List ℤ). too_far 15 m) d ∙ rw (add-one i, ← q)

  pub near_on : far ≡ false → Near l (i + 1)
  near_on n = record { few = omega arith; left = sym (near_next ∙ ap (λ (b : Bool). b || too_far 15 (drop (i + 1) l)) n) }

  pub near_not : far ≡ true → true ≡ too_far 15 l
  near_not n = sym (near_next ∙ ap (λ (b : Bool). b || too_far 15 (drop (i + 1) l)) n)

pub near_ends : (l : List ℤ) (i : ℕ) → Near l i → length l ≤ i → false ≡ too_far 15 l
unfolding too_far
near_ends l i z h = sym (ap (λ (m : List ℤ). too_far 15 m) (drop_of_length-le l h)) ∙ z.left

-- ---- 9: the greatest magnitude is 0
zero_all : (l : List ℤ) → greatest_of l ≡ 0 → all_zero l ≡ true
unfolding greatest_of all_zero
zero_all [] q = refl
zero_all (v ∷ l) q = rw (eq-eqb (nat_abs v) 0 (omega arith), zero_all l (omega arith))

some_not : (l : List ℤ) → (greatest_of l ≡ 0 → ⊥) → all_zero l ≡ false
unfolding greatest_of all_zero
some_not [] q = absurd (q refl)
some_not (v ∷ l) q = go (eqb (nat_abs v) 0) refl (λ u. some_not l u)
  where
    go : (d : Bool) → eqb (nat_abs v) 0 ≡ d → ((greatest_of l ≡ 0 → ⊥) → all_zero l ≡ false) → (d && all_zero l) ≡ false
    go true e f = f (λ u. q (omega (arith, eqb-true (nat_abs v) 0 e, u)))
    go false e f = refl

module _ (l : List ℤ) where
  pub gives_nine : greatest_of l ≡ 0 → 9 ≡ write_refusal l
  unfolding write_refusal
  gives_nine q = rw (zero_all l q)

  pub gives_eight : (greatest_of l ≡ 0 → ⊥) → true ≡ too_far 15 l → 8 ≡ write_refusal l
  unfolding write_refusal
  gives_eight q f = rw (some_not l q, ← f)

  pub gives_none : (greatest_of l ≡ 0 → ⊥) → false ≡ too_far 15 l → 0 ≡ write_refusal l
  unfolding write_refusal
  gives_none q f = rw (some_not l q, ← f)

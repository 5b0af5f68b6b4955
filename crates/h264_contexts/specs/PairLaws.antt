-- Contexts from pairs, as the code makes them: a number raised to be a natural one, the formula, and the two loops. Assumes nothing.
use Rattle.std.specs.Prelude.{ℕ, zero, suc, ◌+◌, ◌-◌, ◌*◌, ◌/◌, ◌≤◌, ◌<◌, min, Bool, ◌&&◌, cond, length, get_or, set, leb, ltb, T, ℤ, pos, negsuc, nat_abs, ◌+ℤ◌}
use Rattle.std.proofs.Math.Path.{◌≡◌, refl, sym, ap}
use Rattle.std.proofs.Common.{ap₂, subst, ◌∙◌, arith, add-one, mul-le-mul_left, length-set, ext_get_or, drop-cons, get_or-set_same, get_or-set_other, SFits, to_z, of_z, to_z-of_z, ltb-true, ltb-false, lt-ltb, le-ltb, le-leb, eq-eqb, ne_eqb, eqb-true}
use Rattle.std.proofs.Math.Bool.{true, false}
use mathlib.Core.List.{List, [], ◌∷◌}
use Rattle.std.proofs.Math.ListN.{drop, drop_of_length-le}
use Rattle.std.proofs.Math.Dec.{eqb}
use Rattle.std.specs.List.{list_all}
use Rattle.std.specs.Int.Signed.{lt_z, le_z, non_neg}
use Rattle.std.specs.Int.{w32}
use Rattle.std.proofs.lemmas.Bool.{lt-leb, eqb-false}
use Rattle.cabac.specs.Contexts.{packed}
use Rattle.h264_block.specs.Contexts.{raised, within, pre_raised, held, initial, initial_all, all_within, pairs_refusal, contexts_after}

pub out_below : (z : ℤ) → lt_z z (negsuc 127) ≡ true → false ≡ within z
unfolding within
out_below (pos m) q = let y : ◌≡◌ {A = ℕ} 0 1 = cc in absurd (omega arith)
out_below (negsuc m) q = sym (le-ltb m 128 (ltb-true 127 m q))

in_above : (z : ℤ) → lt_z z (negsuc 127) ≡ false → le_z z (pos 127) ≡ within z
unfolding within
in_above (pos m) q = go (ltb m 128) refl
  where
    go : (d : Bool) → ltb m 128 ≡ d → leb m 127 ≡ ltb m 128
    go true e = let h = ltb-true m 128 e in le-leb m 127 (omega arith) ∙ sym e
    go false e = let h = ltb-false m 128 e in lt-leb m 127 (omega arith) ∙ sym e
in_above (negsuc m) q = let h = ltb-false 127 m q in sym (lt-ltb m 128 (omega arith))

pub in_code : (z : ℤ) → SFits w32 z → lt_z (to_z w32 (of_z w32 z)) (negsuc 127) ≡ false → le_z (to_z w32 (of_z w32 z)) (pos 127) ≡ within z
in_code z f q = ap (λ y. le_z y (pos 127)) (to_z-of_z f) ∙ in_above z (ap (λ y. lt_z y (negsuc 127)) (sym (to_z-of_z f)) ∙ q)

sum_is : (z : ℤ) → within z ≡ true → z +ℤ pos 128 ≡ pos (raised z)
unfolding within raised
sum_is (pos m) q = refl
sum_is (negsuc m) q =
    let h : m < 128 = ltb-true m 128 q in
    let e : 128 - suc m ≡ 127 - m = omega arith in
    rw (le-ltb 128 (suc m) (omega arith)) (ap pos e)

pub raised_below : (z : ℤ) → within z ≡ true → raised z < 256
unfolding within raised
raised_below (pos m) q = let h = ltb-true m 128 q in omega arith
raised_below (negsuc m) q = omega arith

module _ (z : ℤ) (f : SFits w32 z) (q : within z ≡ true) where
  sum_code : to_z w32 (of_z w32 z) +ℤ pos 128 ≡ pos (raised z)
  sum_code = ap (λ y. y +ℤ pos 128) (to_z-of_z f) ∙ sum_is z q

  small : SFits w32 (pos (raised z))
  small = record { sfits = omega (arith, raised_below z q) }

  pub raise_fits : SFits w32 (to_z w32 (of_z w32 z) +ℤ pos 128)
  raise_fits = subst (SFits w32) (sym sum_code) small

  raise_code : to_z w32 (of_z w32 (to_z w32 (of_z w32 z) +ℤ pos 128)) ≡ pos (raised z)
  raise_code = to_z-of_z raise_fits ∙ sum_code

  pub raise_plain : T (non_neg (to_z w32 (of_z w32 (to_z w32 (of_z w32 z) +ℤ pos 128))))
  raise_plain = subst (λ (y : ℤ). T (non_neg y)) (sym raise_code) tt

  pub raise_is : nat_abs (to_z w32 (of_z w32 (to_z w32 (of_z w32 z) +ℤ pos 128))) ≡ raised z
  raise_is = ap nat_abs raise_code

-- ---- the formula
pub slope_small : (m q : ℕ) → m ≤ 255 → q ≤ 51 → m * q ≤ 13005
slope_small m q h k = let a : m * q ≤ m * 51 = mul-le-mul_left m k in omega arith

pub initial_code : (m n : ℤ) (q up qq s other p r : ℕ) → up ≡ raised m → qq ≡ min q 51 → s ≡ (up * qq + 16 * 408 - 128 * qq) / 16 → other ≡ raised n
    → p ≡ held (s + other) → r ≡ packed p → r ≡ initial m n q
unfolding initial pre_raised
initial_code m n q up qq s other p r a b c d e f = cc

-- ---- the test of all numbers
within_fine : (v : ℤ) (l : List ℤ) → within v ≡ true → all_within (v ∷ l) ≡ all_within l
unfolding all_within
within_fine v l q = rw q refl

within_out : (v : ℤ) (l : List ℤ) → within v ≡ false → all_within (v ∷ l) ≡ false
unfolding all_within
within_out v l q = rw q refl

-- the code reads a number at 32 bits
pub within_back : (z : ℤ) → SFits w32 z → (d : Bool) → d ≡ within (to_z w32 (of_z w32 z)) → within z ≡ d
within_back z f d q = sym (q ∙ ap within (to_z-of_z f))

pub all_is : (l : List ℤ) → list_all within l ≡ all_within l
unfolding all_within
all_is [] = refl
all_is (v ∷ l) = ap (λ (d : Bool). within v && d) (all_is l)

module _ (l : List ℤ) where
  pub within_on : (i : ℕ) → i < length l → within (get_or l i (pos 0)) ≡ true → all_within (drop i l) ≡ all_within l → all_within (drop (i + 1) l) ≡ all_within l
  within_on i h k q =
      let s : all_within (drop (suc i) l) ≡ all_within l = sym (within_fine (get_or l i (pos 0)) (drop (suc i) l) k) ∙ ap all_within (sym (drop-cons l i (pos 0) h)) ∙ q in
      rw (add-one i) s

  pub within_high : (i : ℕ) → i < length l → within (get_or l i (pos 0)) ≡ false → all_within (drop i l) ≡ all_within l → all_within l ≡ false
  within_high i h k q = sym q ∙ ap all_within (drop-cons l i (pos 0) h) ∙ within_out (get_or l i (pos 0)) (drop (suc i) l) k

  pub within_end : (i : ℕ) → length l ≤ i → all_within (drop i l) ≡ all_within l → all_within l ≡ true
  unfolding all_within
  within_end i h q = let d : drop i l ≡ [] = drop_of_length-le l h in sym q ∙ ap all_within d

  pub pairs_few : (length l ≡ 80 → ⊥) → 4 ≡ pairs_refusal l
  unfolding pairs_refusal
  pairs_few h = rw (ne_eqb (length l) 80 h)

  pub pairs_out : length l ≡ 80 → all_within l ≡ false → 4 ≡ pairs_refusal l
  unfolding pairs_refusal
  pairs_out h q = rw (eq-eqb (length l) 80 h, q)

  pub pairs_fine : length l ≡ 80 → all_within l ≡ true → 0 ≡ pairs_refusal l
  unfolding pairs_refusal
  pairs_fine h q = rw (eq-eqb (length l) 80 h, q)

  pub pairs_passed : 0 ≡ pairs_refusal l → (length l ≡ 80) × (all_within l ≡ true)
  unfolding pairs_refusal
  pairs_passed q = go (eqb (length l) 80) refl (all_within l) refl q
    where
      go : (a : Bool) → eqb (length l) 80 ≡ a → (b : Bool) → all_within l ≡ b → ◌≡◌ {A = ℕ} 0 (cond (a && b) 0 4) → (length l ≡ 80) × (b ≡ true)
      go true e true f z = (eqb-true (length l) 80 e, refl)
      go true e false f z = absurd (omega arith)
      go false e b f z = absurd (omega arith)

pub within_at : (l : List ℤ) (i : ℕ) → all_within l ≡ true → i < length l → within (get_or l i (pos 0)) ≡ true
unfolding all_within
within_at [] i q h = absurd (omega arith)
within_at (v ∷ l) zero q h = go (within v) refl q
  where
    go : (a : Bool) → within v ≡ a → (a && all_within l) ≡ true → within v ≡ true
    go true e q = e
    go false e q = let z : ◌≡◌ {A = ℕ} 0 1 = cc in absurd (omega arith)
within_at (v ∷ l) (suc i) q h = within_at l i (go (within v) q) (omega arith)
  where
    go : (a : Bool) → (a && all_within l) ≡ true → all_within l ≡ true
    go true q = q
    go false q = let z : ◌≡◌ {A = ℕ} 0 1 = cc in absurd (omega arith)

-- ---- the contexts of all pairs
at_pair : (q : ℕ) (l : List ℤ) (j : ℕ) → 2 * j + 1 < length l → get_or (initial_all q l) j 0 ≡ initial (get_or l (2 * j) (pos 0)) (get_or l (2 * j + 1) (pos 0)) q
unfolding initial_all
at_pair q [] j h = absurd (omega arith)
at_pair q (m ∷ []) j h = absurd (omega arith)
at_pair q (m ∷ n ∷ l) zero h = refl
at_pair q (m ∷ n ∷ l) (suc j) h =
    let a : 2 * suc j ≡ suc (suc (2 * j)) = omega arith in
    let b : 2 * suc j + 1 ≡ suc (suc (2 * j + 1)) = omega arith in
    at_pair q l j (omega arith) ∙ sym (ap₂ (λ x y. initial x y q) (ap (λ k. get_or (m ∷ n ∷ l) k (pos 0)) a) (ap (λ k. get_or (m ∷ n ∷ l) k (pos 0)) b))

half_long : (q : ℕ) (l : List ℤ) (k : ℕ) → length l ≡ 2 * k → length (initial_all q l) ≡ k
unfolding initial_all
half_long q [] zero h = refl
half_long q [] (suc k) h = absurd (omega arith)
half_long q (m ∷ []) k h = absurd (omega arith)
half_long q (m ∷ n ∷ l) zero h = absurd (omega arith)
half_long q (m ∷ n ∷ l) (suc k) h = ap suc (half_long q l k (omega arith))

-- those of the first i pairs are there
pub record Inited (pairs : List ℤ) (q i : ℕ) (fresh : List ℕ) : Type 0 where
  pub few : i ≤ 40
  pub many : length fresh ≡ 40
  pub made : (j : ℕ) → j < i → get_or fresh j 0 ≡ initial (get_or pairs (2 * j) (pos 0)) (get_or pairs (2 * j + 1) (pos 0)) q

module _ (pairs : List ℤ) (q i : ℕ) (fresh : List ℕ) (h : Inited pairs q i fresh) where
  -- m and n as the code reads them
  pub inited_again : (m n : ℤ) (v : ℕ) → m ≡ get_or pairs (2 * i) (pos 0) → n ≡ get_or pairs (2 * i + 1) (pos 0) → i < 40 → v ≡ initial m n q → Inited pairs q (i + 1) (set fresh i v)
  inited_again m n v em en k e = record {
    few = omega arith;
    many = length-set fresh i v ∙ h.many;
    made = λ j l. go j l (eqb j i) refl;
  }
    where
      go : (j : ℕ) → j < i + 1 → (d : Bool) → eqb j i ≡ d → get_or (set fresh i v) j 0 ≡ initial (get_or pairs (2 * j) (pos 0)) (get_or pairs (2 * j + 1) (pos 0)) q
      go j l true u =
          let s : i ≡ j = sym (eqb-true j i u) in
          subst (λ k. get_or (set fresh i v) k 0 ≡ initial (get_or pairs (2 * k) (pos 0)) (get_or pairs (2 * k + 1) (pos 0)) q) s
          (get_or-set_same fresh i v 0 (omega (arith, h.many)) ∙ e ∙ ap₂ (λ x y. initial x y q) em en)
      go j l false u = let d = eqb-false j i u in get_or-set_other fresh i j v 0 d ∙ h.made j (omega (arith, d))

  pub inited_all : 40 ≤ i → length pairs ≡ 80 → fresh ≡ initial_all q pairs
  inited_all g long =
      let e : length (initial_all q pairs) ≡ 40 = half_long q pairs 40 (omega arith) in
      ext_get_or 0 fresh (initial_all q pairs) (h.many ∙ sym e) (λ j l. h.made j (omega (arith, h.many)) ∙ sym (at_pair q pairs j (omega (arith, h.many))))

pub inited_none : (pairs : List ℤ) (q : ℕ) (fresh : List ℕ) → length fresh ≡ 40 → Inited pairs q 0 fresh
inited_none pairs q fresh h = record { few = omega arith; many = h; made = λ j l. absurd (omega arith) }

-- ---- the lent contexts behind it
pub after_refused : (n : ℕ) → (n ≡ 0 → ⊥) → (cs : List ℕ) (pairs : List ℤ) (q : ℕ) → cs ≡ contexts_after n cs pairs q
unfolding contexts_after
after_refused zero h cs pairs q = absurd (h refl)
after_refused (suc n) h cs pairs q = refl

pub after_passed : (cs : List ℕ) (pairs : List ℤ) (q : ℕ) (fresh : List ℕ) → fresh ≡ initial_all q pairs → fresh ≡ contexts_after 0 cs pairs q
unfolding contexts_after
after_passed cs pairs q fresh e = e

-- The ways out of beginning and of reading out. Assumes nothing.
use Prim.Native.Nat.{ℕ, zero, suc, ◌+◌, ◌-◌, ◌^◌, ◌≤◌, ◌<◌, min}
use Rattle.std.specs.Prelude.{◌≡◌, Bool, true, false, ◌&&◌, cond, List, [], leb, ltb, length, get_or, set, replicate}
use Rattle.std.proofs.Math.Path.{refl, ap}
use Rattle.std.proofs.Common.{sym, ap₂, subst, ◌∙◌, ext_get_or}
use native.Mathlib.Omega.{arith}
use Rattle.std.proofs.lemmas.List.{length-replicate, get_or-replicate}
use borrow.Author.Tests.{leb-true, ltb-true, ltb-false, lt-leb, le-leb, le-ltb, lt-ltb}
use Rattle.counting.specs.Count.{gather, updated}
use Rattle.counting.specs.UpdateLaws.{updated_in, updated_out}
use Rattle.figures.specs.declared.add.Totals.{Totals}
use Rattle.figures.specs.declared.out.PlaceFigures.{PlaceFigures}
use Rattle.figures.specs.declared.out.TallyFigure.{TallyFigure}
use Rattle.figures.specs.Figures.{Figures, area, each, figures_of}
use Rattle.figures.specs.EachLaws.{each_length, each_in}
use Rattle.figures.specs.Entries.{unless_refused, begun, begin_refusal, begin, number_refusal, place_refusal, place_by, place_of, tally_by, tally_of}
use Rattle.figures.specs.Agree.{held, after_of}
use Rattle.figures.specs.CodeLaws.{refused_is, done_is}

-- ---- 4
module _ (log2 : ℕ) where
  pub begin_small : log2 < 2 → 4 ≡ begin_refusal log2
  unfolding begin_refusal
  begin_small h = rw (lt-leb 2 log2 h)

  pub begin_large : 2 ≤ log2 → 5 < log2 → 4 ≡ begin_refusal log2
  unfolding begin_refusal
  begin_large a h = rw (le-leb 2 log2 a, lt-leb log2 5 h)

  pub begin_fine : 2 ≤ log2 → log2 ≤ 5 → 0 ≡ begin_refusal log2
  unfolding begin_refusal
  begin_fine a b = rw (le-leb 2 log2 a, le-leb log2 5 b)

module _ (t : Totals) (place : ℕ) where
  pub place_small : t.log2 < 2 → 4 ≡ place_refusal t place
  unfolding place_refusal
  place_small h = rw (lt-leb 2 t.log2 h)

  pub place_large : 2 ≤ t.log2 → 5 < t.log2 → 4 ≡ place_refusal t place
  unfolding place_refusal
  place_large a h = rw (le-leb 2 t.log2 a, lt-leb t.log2 5 h)

  module _ (a : 2 ≤ t.log2) (b : t.log2 ≤ 5) (n : ℕ) (e : n ≡ area t.log2) where
    pub place_out : n ≤ place → 4 ≡ place_refusal t place
    unfolding place_refusal
    place_out h =
        let g : area t.log2 ≤ place = omega arith in
        rw (le-leb 2 t.log2 a, le-leb t.log2 5 b, le-ltb place (area t.log2) g)

    pub place_fine : place < n → 0 ≡ place_refusal t place
    unfolding place_refusal
    place_fine h =
        let g : place < area t.log2 = omega arith in
        rw (le-leb 2 t.log2 a, le-leb t.log2 5 b, lt-ltb place (area t.log2) g)

-- ---- no events yet: all zero
each_none : (m n : ℕ) (f : ℕ → ℕ) → n ≤ m → ((k : ℕ) → f k ≡ 0) → replicate m 0 ≡ each m n f
each_none m n f l h =
    ext_get_or 0 (replicate m 0) (each m n f) (length-replicate m 0 ∙ sym (each_length m n f)) (λ k u. go k (omega (arith, length-replicate {A = ℕ} m 0, u)) (ltb k n) refl)
  where
    far : (k : ℕ) → n ≤ k → get_or (each m n f) k 0 ≡ get_or (replicate m 0) k 0
    far k q = unfold each in updated_out 0 n (λ k _. f k) (replicate m 0) k q

    go : (k : ℕ) → k < m → (b : Bool) → ltb k n ≡ b → get_or (replicate m 0) k 0 ≡ get_or (each m n f) k 0
    go k u true q = get_or-replicate m k 0 0 u ∙ sym (each_in m n f k (ltb-true k n q) l ∙ h k)
    go k u false q = sym (far k (ltb-false k n q))

area_few : (log2 : ℕ) → 2 ≤ log2 → log2 ≤ 5 → area log2 ≤ 1024
area_few zero a b = absurd (omega arith)
area_few (suc zero) a b = absurd (omega arith)
area_few (suc (suc zero)) a b = omega arith
area_few (suc (suc (suc zero))) a b = omega arith
area_few (suc (suc (suc (suc zero)))) a b = omega arith
area_few (suc (suc (suc (suc (suc zero))))) a b = omega arith
area_few (suc (suc (suc (suc (suc (suc n)))))) a b = absurd (omega arith)

begin_passed : (log2 : ℕ) → 0 ≡ begin_refusal log2 → area log2 ≤ 1024
unfolding begin_refusal
begin_passed log2 z = go (leb 2 log2) refl (leb log2 5) refl z
  where
    go : (a : Bool) → leb 2 log2 ≡ a → (b : Bool) → leb log2 5 ≡ b → ◌≡◌ {A = ℕ} 0 (cond (a && b) 0 4) → area log2 ≤ 1024
    go true qa true qb z = area_few log2 (leb-true 2 log2 qa) (leb-true log2 5 qb)
    go true qa false qb z = absurd (omega arith)
    go false qa b qb z = absurd (omega arith)

module _ (t : Totals) (b s g k : List ℕ) (log2 : ℕ) where
  pub begin_refused : (n : ℕ) → n ≡ begin_refusal log2 → (n ≡ 0 → ⊥) → after_of (record { number = n; totals = t }) b s g k ≡ begin (held t b s g k) log2
  unfolding begin
  begin_refused n e h = refused_is n (begin_refusal log2) t b s g k (begun log2) e h

  pub begin_done : 0 ≡ begin_refusal log2
      → after_of (record { number = 0; totals = record { log2 = log2; accepted = 0; past = 0 } }) (replicate 1024 0) (replicate 1024 0) (replicate 1024 0) (replicate 24 0)
      ≡ begin (held t b s g k) log2
  unfolding begin begun figures_of gather
  begin_done z =
      let few = begin_passed log2 z in
      done_is (begin_refusal log2) (held t b s g k) (record { log2 = log2; accepted = 0; past = 0 }) _ (replicate 1024 0) _ (replicate 1024 0) _ (replicate 1024 0) _ (replicate 24 0) _ z refl
      (each_none 1024 (area log2) (λ _. 0) few (λ _. refl)) (each_none 1024 (area log2) (λ _. 0) few (λ _. refl))
      (each_none 1024 (area log2) (λ _. 0) few (λ _. refl)) (each_none 24 24 (λ _. 0) (omega arith) (λ _. refl))

-- ---- reading out
pub place_in : (t : Totals) (place : ℕ) → 0 ≡ place_refusal t place → place < 1024
unfolding place_refusal
place_in t place z = go (leb 2 t.log2) refl (leb t.log2 5) refl (ltb place (area t.log2)) refl z
  where
    go : (a : Bool) → leb 2 t.log2 ≡ a → (b : Bool) → leb t.log2 5 ≡ b → (d : Bool) → ltb place (area t.log2) ≡ d
        → ◌≡◌ {A = ℕ} 0 (cond (a && (b && d)) 0 4) → place < 1024
    go true qa true qb true qd z =
        omega (arith, area_few t.log2 (leb-true 2 t.log2 qa) (leb-true t.log2 5 qb), ltb-true place (area t.log2) qd)
    go true qa true qb false qd z = absurd (omega arith)
    go true qa false qb d qd z = absurd (omega arith)
    go false qa b qb d qd z = absurd (omega arith)

module _ (fs : Figures) (place : ℕ) where
  pub at_refused : (n : ℕ) → n ≡ place_refusal fs.totals place → (n ≡ 0 → ⊥) → record { number = n; blocks = 0; greatest = 0; sum = 0 } ≡ place_of fs place
  unfolding place_of
  at_refused n e h = go (place_refusal fs.totals place) e
    where
      go : (m : ℕ) → n ≡ m → record { number = n; blocks = 0; greatest = 0; sum = 0 } ≡ place_by m fs place
      go zero q = absurd (h q)
      go (suc m) q = unfold place_by in ap (λ (x : ℕ). record { number = x; blocks = 0; greatest = 0; sum = 0 }) q

  pub at_done : 0 ≡ place_refusal fs.totals place
      → record { number = 0; blocks = get_or fs.blocks place 0; greatest = get_or fs.greatests place 0; sum = get_or fs.sums place 0 } ≡ place_of fs place
  unfolding place_of place_by
  at_done z = ap (λ (m : ℕ). place_by m fs place) z

module _ (fs : Figures) (number : ℕ) where
  pub tally_no : (n : ℕ) → n ≡ number_refusal number → (n ≡ 0 → ⊥) → record { number = n; count = 0 } ≡ tally_of fs number
  unfolding tally_of
  tally_no n e h = go (number_refusal number) e
    where
      go : (m : ℕ) → n ≡ m → record { number = n; count = 0 } ≡ tally_by m fs number
      go zero q = absurd (h q)
      go (suc m) q = unfold tally_by in ap (λ (x : ℕ). record { number = x; count = 0 }) q

  pub tally_yes : 0 ≡ number_refusal number → record { number = 0; count = get_or fs.tallies (number - 1) 0 } ≡ tally_of fs number
  unfolding tally_of tally_by
  tally_yes z = ap (λ (m : ℕ). tally_by m fs number) z

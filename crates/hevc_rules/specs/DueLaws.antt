-- The level that is due next, by the packed places and bins: as the code finds it, and as one clause of the list of levels due. Assumes nothing.
use Rattle.std.specs.Prelude.{ℕ, zero, suc, ◌+◌, ◌-◌, ◌/◌, ◌%◌, ◌≤◌, ◌<◌, ◌≡◌, Bool}
use Rattle.std.proofs.Math.Path.{refl}
use Rattle.std.proofs.Common.{sym, ap, ap₂, ◌∙◌, arith, eq-eqb, ne_eqb}
use Rattle.std.proofs.Math.Bool.{true, false}
use mathlib.Core.List.{List, [], ◌∷◌}
use Rattle.bins.specs.Engine.{bit_no}
use Rattle.bins.specs.Readers.{odd}
use Rattle.hevc_residual.specs.SubBlock.{Due, dues}
use Rattle.hevc_places.specs.Packing.{unpack, unmask}
use Rattle.hevc_rules.specs.LevelsAgree.{base_now, more_now, seen_now, Based}

-- ---- the level that is due, by the mask's lowest bit
unmask_as : (b : Bool) (mask bins : ℕ) → odd mask ≡ b → (bins ≡ 0 → ⊥) → unmask mask bins ≡ b ∷ unmask (mask / 2) (bins - 1)
unfolding unmask
unmask_as b mask zero q h = absurd (h refl)
unmask_as b mask (suc n) q h =
    let e : n ≡ suc n - 1 = omega arith in ap₂ (λ c k. c ∷ unmask (mask / 2) k) q e

module _ (mask bins : ℕ) (seen g2 : Bool) where
  based_by : (level : ℕ) (more : Bool) (gs : List Bool) → unmask mask bins ≡ gs → level ≡ base_now gs seen g2 → more ≡ more_now gs seen g2
      → Based level more mask bins seen g2
  based_by level more gs q a b = record { base = rw q a; follows = rw q b }

  pub based_none : bins ≡ 0 → Based 1 true mask bins seen g2
  unfolding unmask base_now more_now
  based_none q = based_by 1 true [] (ap (unmask mask) q) refl refl

  pub based_even : (bins ≡ 0 → ⊥) → mask % 2 ≡ 0 → Based 1 false mask bins seen g2
  unfolding base_now more_now
  based_even h q = based_by 1 false _ (unmask_as false mask bins (ne_eqb (mask % 2) 1 (λ e. omega arith)) h) refl refl

  odd_front : (bins ≡ 0 → ⊥) → (mask % 2 ≡ 0 → ⊥) → unmask mask bins ≡ true ∷ unmask (mask / 2) (bins - 1)
  odd_front h i = unmask_as true mask bins (eq-eqb (mask % 2) 1 (omega arith)) h

pub based_seen : (mask bins : ℕ) (seen g2 : Bool) → (bins ≡ 0 → ⊥) → (mask % 2 ≡ 0 → ⊥) → seen ≡ true → Based 2 true mask bins seen g2
unfolding base_now more_now
based_seen mask bins true g2 h i q = based_by mask bins true g2 2 true _ (odd_front mask bins true g2 h i) refl refl
based_seen mask bins false g2 h i q = let z : ◌≡◌ {A = ℕ} 0 1 = cc in absurd (omega arith)

pub based_first : (mask bins : ℕ) (seen g2 : Bool) → (bins ≡ 0 → ⊥) → (mask % 2 ≡ 0 → ⊥) → seen ≡ false → Based (2 + bit_no g2) g2 mask bins seen g2
unfolding base_now more_now
based_first mask bins false g2 h i q = based_by mask bins false g2 (2 + bit_no g2) g2 _ (odd_front mask bins false g2 h i) refl refl
based_first mask bins true g2 h i q = let z : ◌≡◌ {A = ℕ} 0 1 = cc in absurd (omega arith)

pub based_three : (mask bins : ℕ) (seen g2 : Bool) → (bins ≡ 0 → ⊥) → (mask % 2 ≡ 0 → ⊥) → seen ≡ false → g2 ≡ true → Based 3 true mask bins seen g2
based_three mask bins seen true h i q e = based_first mask bins seen true h i q
based_three mask bins seen false h i q e = let z : ◌≡◌ {A = ℕ} 0 1 = cc in absurd (omega arith)

pub based_two : (mask bins : ℕ) (seen g2 : Bool) → (bins ≡ 0 → ⊥) → (mask % 2 ≡ 0 → ⊥) → seen ≡ false → g2 ≡ false → Based 2 false mask bins seen g2
based_two mask bins seen false h i q e = based_first mask bins seen false h i q
based_two mask bins seen true h i q e = let z : ◌≡◌ {A = ℕ} 0 1 = cc in absurd (omega arith)

pub seen_none : (mask bins : ℕ) (seen : Bool) → bins ≡ 0 → seen ≡ seen_now (unmask mask bins) seen
unfolding unmask seen_now
seen_none mask bins seen q = rw q

pub seen_even : (mask bins : ℕ) (seen : Bool) → (bins ≡ 0 → ⊥) → mask % 2 ≡ 0 → seen ≡ seen_now (unmask mask bins) seen
unfolding seen_now
seen_even mask bins seen h q = rw (unmask_as false mask bins (ne_eqb (mask % 2) 1 (λ e. omega arith)) h)

pub seen_odd : (mask bins : ℕ) (seen : Bool) → (bins ≡ 0 → ⊥) → (mask % 2 ≡ 0 → ⊥) → true ≡ seen_now (unmask mask bins) seen
unfolding seen_now
seen_odd mask bins seen h i = rw (odd_front mask bins seen seen h i)

base_bounds : (gs : List Bool) (seen g2 : Bool) → (1 ≤ base_now gs seen g2) × (base_now gs seen g2 ≤ 3)
unfolding base_now
base_bounds [] seen g2 = (omega arith, omega arith)
base_bounds (false ∷ gs) seen g2 = (omega arith, omega arith)
base_bounds (true ∷ gs) true g2 = (omega arith, omega arith)
base_bounds (true ∷ gs) false true = (omega arith, omega arith)
base_bounds (true ∷ gs) false false = (omega arith, omega arith)

pub based_least : (level : ℕ) (more : Bool) (mask bins : ℕ) (seen g2 : Bool) → Based level more mask bins seen g2 → 1 ≤ level
based_least level more mask bins seen g2 b = omega (arith, b.base, (base_bounds (unmask mask bins) seen g2).0)

pub based_most : (level : ℕ) (more : Bool) (mask bins : ℕ) (seen g2 : Bool) → Based level more mask bins seen g2 → level ≤ 3
based_most level more mask bins seen g2 b = omega (arith, b.base, (base_bounds (unmask mask bins) seen g2).1)

-- ---- one clause of the list of levels due
tail_of : List Bool → List Bool
tail_of [] = []
tail_of (b ∷ gs) = gs

dues_head : (k : ℕ) (ks : List ℕ) (gs : List Bool) (seen g2 : Bool)
    → dues (k ∷ ks) gs seen g2 ≡ record { at = k; base_level = base_now gs seen g2; more = more_now gs seen g2 } ∷ dues ks (tail_of gs) (seen_now gs seen) g2
unfolding dues base_now more_now seen_now tail_of
dues_head k ks [] seen g2 = refl
dues_head k ks (false ∷ gs) seen g2 = refl
dues_head k ks (true ∷ gs) false g2 = refl
dues_head k ks (true ∷ gs) true g2 = refl

unmask_tail : (mask bins : ℕ) → tail_of (unmask mask bins) ≡ unmask (mask / 2) (bins - 1)
unfolding unmask tail_of
unmask_tail mask zero = refl
unmask_tail mask (suc n) = let e : n ≡ suc n - 1 = omega arith in ap (unmask (mask / 2)) e

unpack_front : (v n : ℕ) → 0 < n → unpack v n ≡ v % 16 ∷ unpack (v / 16) (n - 1)
unfolding unpack
unpack_front v zero h = absurd (omega arith)
unpack_front v (suc n) h = let e : n ≡ suc n - 1 = omega arith in ap (λ k. v % 16 ∷ unpack (v / 16) k) e

abbrev pub due_of : ℕ → ℕ → Bool → Due
due_of k level more = record { at = k; base_level = level; more = more }

pub dues_turn : (v n mask bins : ℕ) (seen g2 : Bool) (level : ℕ) (more : Bool) → 0 < n → Based level more mask bins seen g2
    → dues (unpack v n) (unmask mask bins) seen g2
    ≡ due_of (v % 16) level more ∷ dues (unpack (v / 16) (n - 1)) (unmask (mask / 2) (bins - 1)) (seen_now (unmask mask bins) seen) g2
dues_turn v n mask bins seen g2 level more h b =
    ap (λ ks. dues ks (unmask mask bins) seen g2) (unpack_front v n h)
    ∙ dues_head (v % 16) (unpack (v / 16) (n - 1)) (unmask mask bins) seen g2
    ∙ ap₂ (λ (d : Due) (gs : List Bool). d ∷ dues (unpack (v / 16) (n - 1)) gs (seen_now (unmask mask bins) seen) g2)
    (ap₂ (due_of (v % 16)) (sym b.base) (sym b.follows)) (unmask_tail mask bins)

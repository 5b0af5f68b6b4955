-- How far the levels of a block reach. Assumes nothing.
use Prim.Native.Nat.{ℕ, zero, suc, ◌+◌, ◌≤◌, ◌<◌, max}
use Rattle.std.specs.Prelude.{◌≡◌, Bool, cond, ltb, ℤ, pos, negsuc, nat_abs, length, get_or, set, replicate}
use Rattle.std.proofs.Math.Path.{refl, ap}
use Rattle.std.proofs.Common.{sym, subst}
use mathlib.Core.List.{List, [], ◌∷◌}
use Rattle.std.proofs.Math.Bool.{true, false}
use native.Mathlib.Omega.{arith}
use Rattle.std.proofs.Math.Dec.{leb}
use borrow.Author.Tests.{ltb-true, lt-ltb, le-ltb, leb-true, leb-false}
use Rattle.hevc_residual.specs.Extent.{reach_of}

-- ---- of any f
module _ (f : ℕ → ℕ) where
  abbrev part : ℕ → ℤ → ℕ
  part i v = cond (ltb 0 (nat_abs v)) (f i) 0

  part_some : (i : ℕ) (v : ℤ) → 0 < nat_abs v → part i v ≡ f i
  part_some i v h = rw (lt-ltb 0 (nat_abs v) h)

  part_none : (i : ℕ) (v : ℤ) → nat_abs v ≤ 0 → part i v ≡ 0
  part_none i v h = rw (le-ltb 0 (nat_abs v) h)

  part_most : (i : ℕ) (v : ℤ) → part i v ≤ f i
  part_most i v = go (ltb 0 (nat_abs v))
    where
      go : (d : Bool) → cond d (f i) 0 ≤ f i
      go true = omega arith
      go false = omega arith

  -- no place with a level lies further
  pub reach_most : (l : List ℤ) (i k : ℕ) → 0 < nat_abs (get_or l k (pos 0)) → f (i + k) ≤ reach_of f i l
  unfolding reach_of
  reach_most [] i k h = absurd (omega arith)
  reach_most (v ∷ l) i zero h = let e = part_some i v h in let z : i + 0 ≡ i = omega arith in omega (arith, ap f z)
  reach_most (v ∷ l) i (suc k) h = let e = reach_most l (suc i) k h in let z : i + suc k ≡ suc i + k = omega arith in omega (arith, ap f z)

  -- a place with a level lies so far
  pub record Met (i : ℕ) (l : List ℤ) : Type 0 where
    pub at : ℕ
    pub within : at < length l
    pub some : 0 < nat_abs (get_or l at (pos 0))
    pub far : f (i + at) ≡ reach_of f i l

  met_later : (i : ℕ) (v : ℤ) (l : List ℤ) → Met (suc i) l → part i v ≤ reach_of f (suc i) l → Met i (v ∷ l)
  unfolding reach_of
  met_later i v l m h =
      let z : i + suc m.at ≡ suc i + m.at = omega arith in
      record { at = suc m.at; within = omega (arith, m.within); some = m.some; far = omega (arith, ap f z, m.far) }

  met_here : (i : ℕ) (v : ℤ) (l : List ℤ) → 0 < nat_abs v → reach_of f (suc i) l ≤ f i → Met i (v ∷ l)
  unfolding reach_of
  met_here i v l h k =
      let e = part_some i v h in
      let z : i + 0 ≡ i = omega arith in
      record { at = 0; within = omega arith; some = h; far = omega (arith, ap f z) }

  part_pos : (i : ℕ) (v : ℤ) → 0 < part i v → 0 < nat_abs v
  part_pos i v = go (ltb 0 (nat_abs v)) refl
    where
      go : (d : Bool) → ltb 0 (nat_abs v) ≡ d → 0 < cond d (f i) 0 → 0 < nat_abs v
      go true q h = ltb-true 0 (nat_abs v) q
      go false q h = absurd (omega arith)

  -- which of the two is the greater
  met_further : (i : ℕ) (v : ℤ) (l : List ℤ) → reach_of f (suc i) l < part i v → Met i (v ∷ l)
  met_further i v l h = met_here i v l (part_pos i v (omega arith)) (omega (arith, part_most i v))

  -- a reach above 0 is met
  pub reach_above : (l : List ℤ) (i : ℕ) → 0 < reach_of f i l → Met i l
  unfolding reach_of
  reach_above [] i h = absurd (omega arith)
  reach_above (v ∷ l) i h = go (leb (part i v) (reach_of f (suc i) l)) refl (λ k. reach_above l (suc i) k)
    where
      go : (d : Bool) → leb (part i v) (reach_of f (suc i) l) ≡ d → (0 < reach_of f (suc i) l → Met (suc i) l) → Met i (v ∷ l)
      go true q ih = let k = leb-true (part i v) (reach_of f (suc i) l) q in met_later i v l (ih (omega arith)) k
      go false q ih = met_further i v l (leb-false (part i v) (reach_of f (suc i) l) q)

  -- and so is any, where there is a level
  pub reach_met : (l : List ℤ) (i k : ℕ) → 0 < nat_abs (get_or l k (pos 0)) → Met i l
  reach_met [] i k h = absurd (omega arith)
  reach_met (v ∷ l) i zero h = go (leb (reach_of f (suc i) l) (f i)) refl
    where
      go : (d : Bool) → leb (reach_of f (suc i) l) (f i) ≡ d → Met i (v ∷ l)
      go true q = met_here i v l h (leb-true (reach_of f (suc i) l) (f i) q)
      go false q =
          let k = leb-false (reach_of f (suc i) l) (f i) q in
          met_later i v l (reach_above l (suc i) (omega arith)) (omega (arith, part_most i v))
  reach_met (v ∷ l) i (suc k) h = go (leb (part i v) (reach_of f (suc i) l)) refl (reach_met l (suc i) k h)
    where
      go : (d : Bool) → leb (part i v) (reach_of f (suc i) l) ≡ d → Met (suc i) l → Met i (v ∷ l)
      go true q m = met_later i v l m (leb-true (part i v) (reach_of f (suc i) l) q)
      go false q m = met_further i v l (leb-false (part i v) (reach_of f (suc i) l) q)

  -- storing a level moves it to there, whatever stood there
  pub reach_set : (l : List ℤ) (i k : ℕ) (v : ℤ) → k < length l → 0 < nat_abs v → reach_of f i (set l k v) ≡ max (reach_of f i l) (f (i + k))
  unfolding reach_of
  reach_set [] i k v h n = absurd (omega arith)
  reach_set (w ∷ l) i zero v h n =
      let z : i + 0 ≡ i = omega arith in
      omega (arith, part_some i v n, part_most i w, ap f z)
  reach_set (w ∷ l) i (suc k) v h n =
      let z : i + suc k ≡ suc i + k = omega arith in
      omega (arith, reach_set l (suc i) k v (omega arith) n, ap f z)

  pub reach_zeros : (n i : ℕ) → reach_of f i (replicate n (pos 0)) ≡ 0
  unfolding reach_of
  reach_zeros zero i = refl
  reach_zeros (suc n) i = omega (arith, part_none i (pos 0) (omega arith), reach_zeros n (suc i))

  -- everything further is zero
  pub reach_outside : (l : List ℤ) (k : ℕ) → reach_of f 0 l < f k → get_or l k (pos 0) ≡ pos 0
  reach_outside l k h = go (get_or l k (pos 0)) refl
    where
      z : 0 + k ≡ k
      z = omega arith

      go : (v : ℤ) → get_or l k (pos 0) ≡ v → v ≡ pos 0
      go (pos zero) q = refl
      go (pos (suc n)) q = absurd (omega (arith, reach_most l 0 k (subst (λ (w : ℤ). 0 < nat_abs w) (sym q) (omega arith)), ap f z))
      go (negsuc n) q = absurd (omega (arith, reach_most l 0 k (subst (λ (w : ℤ). 0 < nat_abs w) (sym q) (omega arith)), ap f z))

-- How long the prefix of an Exp-Golomb code is, and that a suffix holds the rest. Assumes nothing.
use Rattle.std.specs.Prelude.{ℕ, zero, suc, ◌+◌, ◌-◌, ◌*◌, ◌^◌, ◌≤◌, ◌<◌, ◌≡◌, refl, Bool, true, false, ltb}
use Rattle.std.proofs.Common.{subst, arith, add-one, pow_mono, ltb-true, ltb-false}
use Rattle.trees.specs.Shapes.{eg_base}
use Rattle.trees.specs.ShapeLaws.{eg_suc}

-- ---- the prefix of an Exp-Golomb code of order k has n ones for v
pub record Prefixed (k v most n : ℕ) : Type 0 where
  pub upto : n ≤ most
  pub reached : (g : ℕ) → g < n → eg_base k (suc g) ≤ v
  pub left : n < most → v < eg_base k (suc n)

-- counted so far
pub record Counted (k v most n : ℕ) : Type 0 where
  pub upto : n ≤ most
  pub reached : (g : ℕ) → g < n → eg_base k (suc g) ≤ v

module _ (k v most : ℕ) where
  pub counted_none : Counted k v most 0
  counted_none = record { upto = omega arith; reached = λ g h. absurd (omega arith) }

  pub counted_more : (n : ℕ) → Counted k v most n → n < most → eg_base k (n + 1) + 0 ≤ v → Counted k v most (n + 1)
  counted_more n c h r =
      let r' : eg_base k (suc n) ≤ v = subst (λ i. eg_base k i ≤ v) (add-one n) (omega arith) in
      record { upto = omega arith; reached = λ g l. go g l (ltb g n) refl }
    where
      go : (g : ℕ) → g < n + 1 → (b : Bool) → ltb g n ≡ b → eg_base k (suc g) ≤ v
      go g l true q = c.reached g (ltb-true g n q)
      go g l false q =
          let e : n + 1 ≡ suc g = let m : n ≤ g = ltb-false g n q in omega arith in
          subst (λ i. eg_base k i ≤ v) e (omega arith)

  pub counted_left : (n : ℕ) → Counted k v most n → v < eg_base k (n + 1) + 0 → Prefixed k v most n
  counted_left n c h =
      let h' : v < eg_base k (n + 1) = omega arith in
      record { upto = c.upto; reached = c.reached; left = λ m. subst (λ i. v < eg_base k i) (add-one n) h' }

  pub counted_all : (n : ℕ) → Counted k v most n → most ≤ n → Prefixed k v most n
  counted_all n c h = record { upto = c.upto; reached = c.reached; left = λ m. absurd (omega arith) }

-- ---- the rest fits its suffix
module _ (k v most n : ℕ) (c : Prefixed k v most n) where
  pub base_reached : eg_base k n ≤ v
  base_reached = go n c.reached
    where
      go : (m : ℕ) → ((g : ℕ) → g < m → eg_base k (suc g) ≤ v) → eg_base k m ≤ v
      go zero h = omega arith
      go (suc m) h = h m (omega arith)

  -- a value in range has a short prefix
  pub prefix_short : k ≤ 22 → v < 4194304 → n + k ≤ 22
  prefix_short hk hv = go n refl
    where
      go : (m : ℕ) → n ≡ m → n + k ≤ 22
      go zero q = omega arith
      go (suc m) q =
          let a : eg_base k (suc m) ≤ v = c.reached m (omega arith) in
          let b : eg_base k (suc m) ≡ eg_base k m + 2 ^ (m + k) = eg_suc k m in
          let d : 2 ^ (m + k) < 2 ^ 22 = omega arith in
          let e : m + k < 22 = small (m + k) (ltb (m + k) 22) refl d in
          omega arith
        where
          small : (i : ℕ) (b : Bool) → ltb i 22 ≡ b → 2 ^ i < 2 ^ 22 → i < 22
          small i true q h = ltb-true i 22 q
          small i false q h = let u : 2 ^ 22 ≤ 2 ^ i = pow_mono (ltb-false i 22 q) in absurd (omega arith)

  pub rest_fits : n < most → v - eg_base k n < 2 ^ (n + k)
  rest_fits h =
      let a : v < eg_base k (suc n) = c.left h in
      let b : eg_base k (suc n) ≡ eg_base k n + 2 ^ (n + k) = eg_suc k n in
      omega (arith, base_reached)

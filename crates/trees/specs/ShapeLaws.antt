-- The two trees of Shapes, exact. Assumes nothing.
use Prim.Native.Nat.{ℕ, zero, suc, ◌+◌, ◌-◌, ◌*◌, ◌^◌, ◌≤◌, ◌<◌}
use Rattle.std.specs.Prelude.{◌≡◌, refl, Bool, leb, ltb}
use Rattle.std.proofs.Common.{sym, ap, ◌∙◌, pow-suc, add-one, pow_mono, pow-add}
use Rattle.std.proofs.Math.Bool.{true, false}
use native.Mathlib.Omega.{arith}
use Rattle.std.proofs.Math.Pow.{suc_ones}
use borrow.Author.Tests.{leb-true, leb-false, le-leb, lt-leb, ltb-true, ltb-false}
use Rattle.bins.specs.Syn.{Syn, done}
use Rattle.trees.specs.Shapes.{eg_base, first_then, count_s, golomb_s}
use Rattle.trees.specs.TreeLaws.{Writes, writes_done, writes_bin, writes_bind, Exact, exact_done, exact_stop, exact_bin, exact_bind, exact_as}
use Rattle.trees.specs.ReaderLaws.{clash, writes_if, exact_if, bits_writes, bits_exact, Rising, Group, ones_writes, ones_exact}

-- ---- a first number, then another
pub then_below : (a b n g : ℕ) → a < n → b < n → first_then a b g < n
then_below a b n zero h k = h
then_below a b n (suc g) h k = k

pub then_later : (a b g : ℕ) → b ≡ first_then a b (g + 1)
then_later a b g = ap (first_then a b) (sym (add-one g))

-- ---- ones with contexts
module _ {B : Type 0} (f : ℕ → ℕ) (top : ℕ) (v : B → ℕ) (b : B) (ctx : ℕ → ℕ) where
  count_writes_from : (n g : ℕ) → g + n ≡ top → f g ≤ v b → Writes (count_s ctx n g (λ g t. leb (f (suc g)) (v t))) b (Group f top (v b))
  unfolding count_s
  count_writes_from zero g e h = writes_done (record { upto = omega arith; under = h; over = λ k. absurd (omega arith) })
  count_writes_from (suc n) g e h = writes_bin (writes_if (leb (f (suc g)) (v b))
      (λ q. count_writes_from n (suc g) (omega arith) (leb-true (f (suc g)) (v b) q))
      (λ q. writes_done (record { upto = omega arith; under = h; over = λ k. leb-false (f (suc g)) (v b) q })))

  pub count_writes : f 0 ≤ v b → Writes (count_s ctx top 0 (λ g t. leb (f (suc g)) (v t))) b (Group f top (v b))
  count_writes h = count_writes_from top 0 (omega arith) h

  module _ (up : Rising f top) where
    count_exact_from : (n g : ℕ) → g + n ≡ top
        → Exact (count_s ctx n g (λ g t. leb (f (suc g)) (v t))) b (λ a. (g ≤ a) × (a ≤ top)) (Group f top (v b))
    unfolding count_s
    count_exact_from zero g e = exact_done (omega arith, omega arith)
    count_exact_from (suc n) g e = exact_bin (λ d. elim d as (λ x. Exact (elim x [ true ↦ count_s ctx n (suc g) (λ g t. leb (f (suc g)) (v t)) | false ↦ done g ]) b (λ a. ((g ≤ a) × (a ≤ top)) × (Group f top (v b) a → leb (f (suc g)) (v b) ≡ x)) (Group f top (v b))) [
      | true ↦ exact_as (count_exact_from n (suc g) (omega arith)) (λ a h.
          (((omega arith, h.1), λ q. le-leb (f (suc g)) (v b) (omega (arith, up (suc g) a h.0 h.1, q.under))), λ q. q))
      | false ↦ exact_done ((omega arith, omega arith), λ q. lt-leb (f (suc g)) (v b) (q.over (omega arith)))
    ])

    pub count_exact : Exact (count_s ctx top 0 (λ g t. leb (f (suc g)) (v t))) b (λ a. a ≤ top) (Group f top (v b))
    count_exact = exact_as (count_exact_from top 0 (omega arith)) (λ a h. (h.1, λ q. q))

-- ---- Exp-Golomb: what n ones stand for
shifted : (m k : ℕ) → (m + suc m) * k ≡ m * k + suc m * k
shifted m k = omega arith

pub eg_suc : (k n : ℕ) → eg_base k (suc n) ≡ eg_base k n + 2 ^ (n + k)
eg_suc k n =
    let m = 2 ^ n - 1 in
    let s : suc m ≡ 2 ^ n = suc_ones n in
    let d : 2 ^ suc n - 1 ≡ m + suc m = omega (arith, pow-suc 2 n) in
    ap (λ z. z * 2 ^ k) d ∙ shifted m (2 ^ k) ∙ ap (λ z. m * 2 ^ k + z) (ap (λ z. z * 2 ^ k) s ∙ sym (pow-add 2 n k))

-- with 2 ^ k more it is a power
pub eg_whole : (k n : ℕ) → eg_base k n + 2 ^ k ≡ 2 ^ (n + k)
eg_whole k n =
    let m = 2 ^ n - 1 in
    let e : m * 2 ^ k + 2 ^ k ≡ suc m * 2 ^ k = more m (2 ^ k) in
    e ∙ ap (λ z. z * 2 ^ k) (suc_ones n) ∙ sym (pow-add 2 n k)
  where
    more : (m k : ℕ) → m * k + k ≡ suc m * k
    more m k = omega arith

pub eg_rising : (k top : ℕ) → Rising (eg_base k) top
eg_rising k top i j h t =
    let p : 2 ^ (i + k) ≤ 2 ^ (j + k) = pow_mono (omega arith) in
    omega (arith, eg_whole k i, eg_whole k j)

module _ {B : Type 0} (most k : ℕ) (v : B → ℕ) (b : B) where
  -- the numbers whose prefix is below the greatest are written
  pub golomb_writes : v b < eg_base k most → Writes (golomb_s most k v) b (λ a. a ≡ v b)
  unfolding golomb_s
  golomb_writes h = writes_bind (ones_writes (eg_base k) most v b (omega arith)) (λ n g.
      writes_if (leb most n)
      (λ q. absurd (omega (arith, h, g.under, eg_rising k n most n (leb-true most n q) (omega arith))))
      (λ q.
      let fits : v b - eg_base k n < 2 ^ (n + k) = omega (arith, eg_suc k n, g.over (leb-false most n q), g.under) in
      writes_bind (bits_writes (λ t. v t - eg_base k n) b (n + k) fits) (λ x e. writes_done (omega (arith, e, g.under)))))

  -- and no other number is read
  pub golomb_exact : Exact (golomb_s most k v) b (λ a. a < eg_base k most) (λ a. a ≡ v b)
  unfolding golomb_s
  golomb_exact = exact_bind (ones_exact (eg_base k) most v b (eg_rising k most)) (λ n top. exact_if (leb most n)
      (λ q. exact_stop)
      (λ q. exact_bind (bits_exact (λ t. v t - eg_base k n) b (n + k)) (λ x fits. exact_done (
        (
          omega (arith, eg_suc k n, eg_rising k most (suc n) most (leb-false most n q) (omega arith)),
          λ e. record { upto = top; under = omega arith; over = λ m. omega (arith, eg_suc k n) },
        ),
        λ e. omega arith,
      ))))

-- Remainders, exact: Exp-Golomb, its limited form, and the remainder with a Rice parameter. Assumes nothing.
use Prim.Native.Nat.{ℕ, zero, suc, ◌+◌, ◌-◌, ◌*◌, ◌^◌, ◌≤◌, ◌<◌}
use Rattle.std.specs.Prelude.{◌≡◌, Bool, true, ◌||◌, eqb}
use Rattle.std.proofs.Math.Path.{refl}
use Rattle.std.proofs.Common.{sym, ap, ◌∙◌, mul-le-mul_right, pow-add}
use Rattle.std.proofs.Math.Bool.{false, cond}
use native.Mathlib.Omega.{arith}
use Rattle.std.proofs.Math.Nat.{pow-suc}
use Rattle.std.proofs.Math.Pow.{pow_mono, suc_ones}
use Rattle.std.proofs.Math.Dec.{leb, ltb}
use borrow.Author.Tests.{leb-false, lt-leb, le-ltb, ltb-true, ltb-false, eqb-true, eqb-false}
use Rattle.hevc_residual.specs.declared.params.Params.{Params}
use Rattle.hevc_residual.specs.Wanted.{Wanted}
use Rattle.trees.specs.ShapeLaws.{eg_suc, eg_whole, eg_rising}
use Rattle.hevc_residual.specs.Remainder.{log2_transform_range, eg_base, egk_s, limited_s, remainder_s}
use Rattle.hevc_residual.specs.LimitLaws.{range_small, pow_below}
use Rattle.trees.specs.TreeLaws.{Writes, writes_done, writes_bind, Exact, exact_done, exact_stop, exact_bind, exact_as}
use Rattle.trees.specs.ReaderLaws.{clash, both_off, or_false, writes_if, exact_if, bits_writes, bits_exact, Rising, Group, ones_writes, ones_exact}

module _ (v : Wanted → ℕ) (b : Wanted) where
  -- ---- Exp-Golomb: the numbers below 2 ^ 32 − 2 ^ k
  pub egk_writes : (k : ℕ) → 1 ≤ k → v b + 2 ^ k < 2 ^ 32 → Writes (egk_s k v) b (λ a. a ≡ v b)
  unfolding egk_s
  egk_writes k one h = writes_bind (ones_writes (eg_base k) 31 v b (omega arith)) (λ n g.
      let small : n + k < 32 = pow_below (n + k) 32 (omega (arith, eg_whole k n, g.under)) in
      let fits : v b - eg_base k n < 2 ^ (n + k) = omega (arith, eg_suc k n, g.over (omega arith)) in
      writes_if (leb 31 n || leb 32 (n + k))
      (λ q. clash (both_off (leb 31 n) (leb 32 (n + k)) (lt-leb 31 n (omega arith)) (lt-leb 32 (n + k) small)) q)
      (λ q. writes_bind (bits_writes (λ t. v t - eg_base k n) b (n + k) fits) (λ x e. writes_done (omega (arith, e, g.under)))))

  pub egk_exact : (k : ℕ) → Exact (egk_s k v) b (λ a. a + 2 ^ k < 2 ^ 32) (λ a. a ≡ v b)
  unfolding egk_s
  egk_exact k = exact_bind (ones_exact (eg_base k) 31 v b (eg_rising k 31)) (λ n top. exact_if (leb 31 n || leb 32 (n + k))
      (λ q. exact_stop)
      (λ q.
      let small : n + k < 32 = leb-false 32 (n + k) (or_false (leb 31 n) (leb 32 (n + k)) q).1 in
      exact_bind (bits_exact (λ t. v t - eg_base k n) b (n + k)) (λ x fits.
      let p : 2 ^ suc (n + k) ≤ 2 ^ 32 = pow_mono small in
      exact_done (
        (omega (arith, eg_whole k n, pow-suc 2 (n + k)), λ e. record { upto = top; under = omega arith; over = λ m. omega (arith, eg_suc k n) }),
        λ e. omega arith,
      ))))

  -- ---- the limited form, of order k, for numbers below 2 ^ r
  -- a count n whose base is below 2 ^ r has n + k ≤ r, or is 0
  count_small : (r k n : ℕ) → eg_base k n < 2 ^ r → k ≤ 22 → r ≤ 22 → n + k ≤ 22
  count_small r k zero h a c = omega arith
  count_small r k (suc n) h a c = omega (arith, pow_below (n + k) r (omega (arith, eg_suc k n)))

  -- how many bits follow n ones, and that the rest of the number goes into them
  len_fits : (r k n : ℕ) → r ≤ 22 → n + k ≤ 22 → v b < 2 ^ r → Group (eg_base k) (28 - r) (v b) n → (d : Bool) → eqb n (28 - r) ≡ d
      → (v b - eg_base k n < 2 ^ cond d r (n + k)) × (cond d r (n + k) ≤ 32)
  len_fits r k n hr s h g true e = (omega arith, omega arith)
  len_fits r k n hr s h g false e =
      let less : n < 28 - r = omega (arith, g.upto, eqb-false n (28 - r) e) in
      (omega (arith, eg_suc k n, g.over less), omega arith)

  pub limited_writes : (r k : ℕ) → r ≤ 22 → k ≤ 22 → v b < 2 ^ r → Writes (limited_s r k v) b (λ a. a ≡ v b)
  unfolding limited_s
  limited_writes r k hr hk h = writes_bind (ones_writes (eg_base k) (28 - r) v b (omega arith)) (λ n g.
      let len = cond (eqb n (28 - r)) r (n + k) in
      let fit = len_fits r k n hr (count_small r k n (omega (arith, g.under)) hk hr) h g (eqb n (28 - r)) refl in
      let on : (leb 32 n || (leb 32 k || ltb 32 len)) ≡ false =
      both_off (leb 32 n) (leb 32 k || ltb 32 len) (lt-leb 32 n (omega (arith, g.upto)))
      (both_off (leb 32 k) (ltb 32 len) (lt-leb 32 k (omega arith)) (le-ltb 32 len fit.1)) in
      writes_if (leb 32 n || (leb 32 k || ltb 32 len)) (λ q. clash on q)
      (λ q. writes_bind (bits_writes (λ t. v t - eg_base k n) b len fit.0) (λ x e. writes_done (omega (arith, e, g.under)))))

  len_over : (r k n x : ℕ) (d : Bool) → eqb n (28 - r) ≡ d → x < 2 ^ cond d r (n + k) → n < 28 - r → eg_base k n + x < eg_base k (suc n)
  len_over r k n x true e h m = absurd (omega (arith, eqb-true n (28 - r) e))
  len_over r k n x false e h m = omega (arith, eg_suc k n)

  pub limited_exact : (r k : ℕ) → Exact (limited_s r k v) b (λ a. Unit {0}) (λ a. a ≡ v b)
  unfolding limited_s
  limited_exact r k = exact_bind (ones_exact (eg_base k) (28 - r) v b (eg_rising k (28 - r))) (λ n top.
      let len = cond (eqb n (28 - r)) r (n + k) in
      exact_if (leb 32 n || (leb 32 k || ltb 32 len)) (λ q. exact_stop)
      (λ q. exact_bind (bits_exact (λ t. v t - eg_base k n) b len) (λ x fits.
      exact_done (
        (
          tt,
          λ e. record {
            upto = top;
            under = omega arith;
            over = λ m. omega (arith, len_over r k n x (eqb n (28 - r)) refl fits m, e);
          },
        ),
        λ e. omega arith,
      ))))

-- ---- the remainder with Rice parameter r
rice_rising : (r top : ℕ) → Rising (λ q. q * 2 ^ r) top
rice_rising r top i j h t = mul-le-mul_right (2 ^ r) h

module _ (p : Params) (r : ℕ) (v : Wanted → ℕ) (b : Wanted) where
  pub remainder_writes : p.depth ≤ 16 → r ≤ 21 → v b < 2 ^ log2_transform_range p → Writes (remainder_s p r v) b (λ a. a ≡ v b)
  unfolding remainder_s
  remainder_writes d hr h =
      let t : log2_transform_range p ≤ 22 = range_small p d in
      let m : 2 ^ log2_transform_range p ≤ 2 ^ 22 = pow_mono t in
      let k : 2 ^ (r + 1) ≤ 2 ^ 22 = pow_mono {i = r + 1} {j = 22} (omega arith) in
      let high : Wanted → ℕ = λ t. v t - 4 * 2 ^ r in
      writes_bind (ones_writes (λ q. q * 2 ^ r) 4 v b (omega arith)) (λ q g. writes_if (ltb q 4)
      (λ e. writes_bind (bits_writes (λ t. v t - q * 2 ^ r) b r (omega (arith, g.over (ltb-true q 4 e)))) (λ x u. writes_done (omega (arith, u, g.under))))
      (λ e.
      let four : q ≡ 4 = omega (arith, ltb-false q 4 e, g.upto) in
      let under : 4 * 2 ^ r ≤ v b = rw four at g.under in
      writes_bind (writes_if p.extended
      (λ x. limited_writes high b (log2_transform_range p) (r + 1) t (omega arith) (omega arith))
      (λ x. egk_writes high b (r + 1) (omega arith) (omega arith)))
      (λ x u. writes_done (omega (arith, u)))))

  pub remainder_exact : Exact (remainder_s p r v) b (λ a. Unit {0}) (λ a. a ≡ v b)
  unfolding remainder_s
  remainder_exact =
      let high : Wanted → ℕ = λ t. v t - 4 * 2 ^ r in
      exact_bind (ones_exact (λ q. q * 2 ^ r) 4 v b (rice_rising r 4)) (λ q top. exact_if (ltb q 4)
      (λ e. exact_bind (bits_exact (λ t. v t - q * 2 ^ r) b r) (λ x fits. exact_done (
        (tt, λ u. record { upto = top; under = omega arith; over = λ m. omega arith }),
        λ u. omega arith,
      )))
      (λ e.
      let four : q ≡ 4 = omega (arith, ltb-false q 4 e, top) in
      exact_bind (exact_if {G = λ a. Unit {0}} {Q = λ a. a ≡ high b} p.extended
      (λ x. limited_exact high b (log2_transform_range p) (r + 1))
      (λ x. exact_as (egk_exact high b (r + 1)) (λ a g. (tt, λ u. u))))
      (λ x g. exact_done (
        (tt, λ u. record { upto = top; under = rw four (omega arith); over = λ m. absurd (omega arith) }),
        λ u. omega arith,
      ))))

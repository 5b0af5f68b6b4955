-- The two trees of Shapes by the judgement on trees. Assumes nothing.
use Prim.Native.Nat.{ℕ, zero, suc, ◌+◌, ◌≤◌, ◌<◌}
use Rattle.std.specs.Prelude.{Bool, leb}
use native.Mathlib.Omega.{arith}
use Rattle.std.proofs.Common.{leb-false}
use Rattle.bins.specs.Syn.{Syn}
use Rattle.trees.specs.Every.{Bounds, Counted, Each, each_done, each_stop, each_bin, each_bind, each_if, each_as, bits_each, ones_each}
use Rattle.trees.specs.Shapes.{eg_base, count_s, golomb_s}
use Rattle.trees.specs.ShapeLaws.{eg_suc, eg_rising}

module _ {B : Type 0} {K : Bounds} where
  pub count_each : {n : ℕ} (ctx : ℕ → ℕ) (i g : ℕ) (w : ℕ → B → Bool) → ((j : ℕ) → g ≤ j → j < g + i → K.contexts (ctx j)) → Each {B = B} K (Counted g i n) n (count_s ctx i g w)
  unfolding count_s
  count_each ctx zero g w h = each_done (record { from = omega arith; upto = omega arith; bins = omega arith })
  count_each ctx (suc i) g w h =
      each_bin (h g (omega arith) (omega arith)) (λ b. each_if b
      (λ q. each_as (count_each ctx i (suc g) w (λ j k l. h j (omega arith) (omega arith)))
      (λ x m u. record { from = omega (arith, u.from); upto = omega (arith, u.upto); bins = omega (arith, u.bins) }))
      (λ q. each_done (record { from = omega arith; upto = omega arith; bins = omega arith })))

  -- a prefix of most ones stops by 8
  pub golomb_each : {n : ℕ} (most k : ℕ) (v : B → ℕ) → ((m : ℕ) → K.stops 8 m) → Each {B = B} K (λ a m. a < eg_base k most) n (golomb_s most k v)
  unfolding golomb_s
  golomb_each most k v h = each_bind (ones_each most 0 _) (λ n m u. each_if (leb most n)
      (λ q. each_stop (h m))
      (λ q. each_bind (bits_each (n + k) 0 _) (λ x m b. each_done
      (omega (arith, b.0, eg_suc k n, eg_rising k most (suc n) most (leb-false most n q) (omega arith))))))

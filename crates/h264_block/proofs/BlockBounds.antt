-- What any reading of the block can come to: 16 levels, by the block's 40 contexts. It stops by 8 alone, and never aligns. Assumes nothing.
use Rattle.std.specs.Prelude.{ℕ, zero, suc, ◌+◌, ◌-◌, ◌<◌, min, ◌≡◌, refl, Bool, true, false, cond, List, [], ◌∷◌, ltb, ℤ, pos, length, set, replicate}
use Rattle.std.proofs.Common.{◌∙◌, arith, length-set}
use Rattle.std.proofs.lemmas.List.{length-replicate}
use Rattle.trees.specs.Levels.{signed, in_range}
use Rattle.trees.specs.Every.{Bounds, Any, Each, each_done, each_stop, each_bin, each_bypass, each_bind, each_if, each_as}
use Rattle.trees.specs.ShapeBounds.{count_each, golomb_each}
use Rattle.h264_block.specs.Layout.{pair_count, at_magnitude}
use Rattle.h264_block.specs.Block.{places_s, magnitude_s, levels_s, block}

abbrev pub block_bounds : Bounds
block_bounds = record { stops = λ r n. r ≡ 8; aligns = λ n. ⊥; contexts = λ c. c < pair_count }

places_each : {m : ℕ} (n k : ℕ) (ks : List ℕ) → k + n ≡ 15 → Each {B = List ℤ} block_bounds Any m (places_s n k ks)
unfolding places_s
places_each zero k ks e = each_done tt
places_each (suc n) k ks e =
    each_bin (omega arith) (λ b. each_if b
    (λ q. each_bin (omega arith) (λ c. each_if c (λ q. each_done tt) (λ q. places_each n (suc k) (k ∷ ks) (omega arith))))
    (λ q. places_each n (suc k) ks (omega arith)))

at_below : (ones bigs g : ℕ) → at_magnitude ones bigs g < pair_count
unfolding at_magnitude
at_below ones bigs zero = go (ltb 0 bigs)
  where
    go : (d : Bool) → 30 + cond d 0 (min 4 (1 + ones)) < 40
    go true = omega arith
    go false = omega arith
at_below ones bigs (suc g) = omega arith

pub magnitude_each : {n : ℕ} (ones bigs : ℕ) (v : List ℤ → ℕ) → Each {B = List ℤ} block_bounds (λ a m. a < 65549) n (magnitude_s ones bigs v)
unfolding magnitude_s
magnitude_each ones bigs v =
    each_bind (count_each (at_magnitude ones bigs) 14 0 _ (λ j h k. at_below ones bigs j)) (λ q m u. each_if (ltb q 14)
    (λ e. each_done (omega (arith, u.upto)))
    (λ e. each_bind (golomb_each 16 0 (λ w. v w - 14) (λ m. refl)) (λ x m b. each_done (omega (arith, b)))))

levels_each : {n : ℕ} (ks : List ℕ) (ones bigs : ℕ) (l : List ℤ) → Each {B = List ℤ} block_bounds (λ z m. length z ≡ length l) n (levels_s ks ones bigs l)
unfolding levels_s
levels_each [] ones bigs l = each_done refl
levels_each {n = n} (k ∷ ks) ones bigs l =
    each_bind (magnitude_each ones bigs _) (λ v m u. each_bypass (λ neg. each_if (in_range 15 neg (suc v))
    (λ q. each_as (levels_each {n = suc m} ks _ _ (set l k (signed neg (suc v)))) (λ z m h. h ∙ length-set l k (signed neg (suc v))))
    (λ q. each_stop refl)))

pub block_each : {n : ℕ} → Each {B = List ℤ} block_bounds (λ l m. length l ≡ 16) n block
unfolding block
block_each =
    each_bind (places_each 15 0 [] (omega arith)) (λ ks m u.
    each_as (levels_each ks 0 0 (replicate 16 (pos 0))) (λ z m h. h ∙ length-replicate 16 (pos 0)))

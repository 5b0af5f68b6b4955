-- How many bins a block has at most: 30 flags, and 46 for each of 16 levels. Assumes nothing.
use Rattle.std.specs.Prelude.{ℕ, zero, suc, ◌+◌, ◌*◌, ◌≤◌, ◌≡◌, List, [], ◌∷◌, ltb, leb, ℤ, pos, length, set, replicate, ◌-◌}
use Rattle.std.proofs.Common.{arith, leb-false}
use Rattle.bins.specs.Syn.{Out, run, by_list}
use Rattle.trees.specs.Levels.{signed, in_range}
use Rattle.trees.specs.Every.{Free, Each, each_done, each_stop, each_bin, each_bypass, each_bind, each_if, each_as, bits_each, ones_each}
use Rattle.trees.specs.Reached.{each_list}
use Rattle.trees.specs.Shapes.{golomb_s}
use Rattle.trees.specs.ShapeBounds.{count_each}
use Rattle.h264_block.specs.Layout.{at_magnitude}
use Rattle.h264_block.specs.Block.{places_s, magnitude_s, levels_s, block}

abbrev pub bins_most : ℕ
bins_most = 766

-- a place more with each flag that is 1
places_few : {m : ℕ} (n k : ℕ) (ks : List ℕ) → Each {B = List ℤ} Free (λ l b. (length l ≤ length ks + n + 1) × (b ≤ m + 2 * n)) m (places_s n k ks)
unfolding places_s
places_few zero k ks = each_done (omega arith, omega arith)
places_few (suc n) k ks =
    each_bin tt (λ b. each_if b
    (λ q. each_bin tt (λ c. each_if c
    (λ q. each_done (omega arith, omega arith))
    (λ q. each_as (places_few n (suc k) (k ∷ ks)) (λ l b u. (omega (arith, u.0), omega (arith, u.1))))))
    (λ q. each_as (places_few n (suc k) ks) (λ l b u. (omega (arith, u.0), omega (arith, u.1)))))

golomb_few : {n : ℕ} (v : List ℤ → ℕ) → Each {B = List ℤ} Free (λ a m. m ≤ n + 31) n (golomb_s 16 0 v)
unfolding golomb_s
golomb_few v = each_bind (ones_each 16 0 _) (λ n m u. each_if (leb 16 n)
    (λ q. each_stop tt)
    (λ q. each_bind (bits_each (n + 0) 0 _) (λ x k b. each_done (omega (arith, b.1, u.bins, u.upto, leb-false 16 n q)))))

magnitude_few : {n : ℕ} (ones bigs : ℕ) (v : List ℤ → ℕ) → Each {B = List ℤ} Free (λ a m. m ≤ n + 45) n (magnitude_s ones bigs v)
unfolding magnitude_s
magnitude_few ones bigs v =
    each_bind (count_each (at_magnitude ones bigs) 14 0 _ (λ j h k. tt)) (λ q m u. each_if (ltb q 14)
    (λ e. each_done (omega (arith, u.bins)))
    (λ e. each_bind (golomb_few (λ w. v w - 14)) (λ x k b. each_done (omega (arith, b, u.bins)))))

levels_few : {n : ℕ} (ks : List ℕ) (ones bigs : ℕ) (l : List ℤ) → Each {B = List ℤ} Free (λ z m. m ≤ n + 46 * length ks) n (levels_s ks ones bigs l)
unfolding levels_s
levels_few [] ones bigs l = each_done (omega arith)
levels_few {n = n} (k ∷ ks) ones bigs l =
    each_bind (magnitude_few ones bigs _) (λ v m u. each_bypass (λ neg. each_if (in_range 15 neg (suc v))
    (λ q. each_as (levels_few {n = suc m} ks _ _ (set l k (signed neg (suc v)))) (λ z j h. omega (arith, h, u)))
    (λ q. each_stop tt)))

block_few : Each {B = List ℤ} Free (λ l m. m ≤ bins_most) 0 block
unfolding block
block_few =
    each_bind (places_few 15 0 []) (λ ks m u.
    each_as (levels_few ks 0 0 (replicate 16 (pos 0))) (λ z k h. omega (arith, h, u.0, u.1)))

-- a list that is read is so long at most
pub list_few : (bins : List ℕ) (l : List ℤ) → run by_list block bins ≡ Out.ok l [] → length bins ≤ 2 * bins_most
list_few bins l q = let z = each_list block_few bins l [] q in omega (arith, z.1, z.2)

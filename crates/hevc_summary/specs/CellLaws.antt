-- Places and sub-blocks: each place stands in one sub-block, and a sum over the block is the sum over its sub-blocks. Assumes nothing.
use Rattle.std.specs.Prelude.{ℕ, zero, suc, ◌+◌, ◌*◌, ◌/◌, ◌%◌, ◌^◌, ◌≤◌, ◌<◌, ◌≡◌, refl}
use Rattle.std.proofs.Common.{sym, ap, ap₂, subst, ◌∙◌, arith}
use Rattle.counting.specs.Count.{sum_to}
use Rattle.counting.specs.SumLaws.{sum_ext, sum_swap, sum_rows}
use Rattle.hevc_summary.specs.Summary.{side, area, width, subs, cell, sub_of}

-- the four sizes
pub by_size : (P : ℕ → Type 0) → P 2 → P 3 → P 4 → P 5 → (log2 : ℕ) → 2 ≤ log2 → log2 ≤ 5 → P log2
by_size P a b c d zero h k = absurd (omega arith)
by_size P a b c d (suc zero) h k = absurd (omega arith)
by_size P a b c d (suc (suc zero)) h k = a
by_size P a b c d (suc (suc (suc zero))) h k = b
by_size P a b c d (suc (suc (suc (suc zero)))) h k = c
by_size P a b c d (suc (suc (suc (suc (suc zero))))) h k = d
by_size P a b c d (suc (suc (suc (suc (suc (suc n)))))) h k = absurd (omega arith)

-- w sub-blocks in a row
module _ (w : ℕ) (hi : (y x : ℕ) → x < w → (y * w + x) / w ≡ y) (lo : (y x : ℕ) → x < w → (y * w + x) % w ≡ x) where
  abbrev cell_at : ℕ → ℕ → ℕ
  cell_at s k = (4 * (s / w) + k / 4) * (w * 4) + (4 * (s % w) + k % 4)

  sum_blocks : (f : ℕ → ℕ) → sum_to (w * 4 * (w * 4)) f ≡ sum_to (w * w) (λ s. sum_to (4 * 4) (λ k. f (cell_at s k)))
  sum_blocks f =
      sum_rows (w * 4) (w * 4) f
      ∙ sum_rows w 4 (λ y. sum_to (w * 4) (λ x. f (y * (w * 4) + x)))
      ∙ sum_ext w _ _ (λ sy u. sum_ext 4 _ _ (λ j h. sum_rows w 4 (λ x. f ((sy * 4 + j) * (w * 4) + x))))
      ∙ sum_ext w _ _ (λ sy u. sum_swap 4 w (λ j sx. sum_to 4 (λ i. f ((sy * 4 + j) * (w * 4) + (sx * 4 + i)))))
      ∙ sym (sum_rows w w (λ s. sum_to (4 * 4) (λ k. f (cell_at s k)))
      ∙ sum_ext w _ _ (λ sy u. sum_ext w _ _ (λ sx h. sum_rows 4 4 (λ k. f (cell_at (sy * w + sx) k))
      ∙ sum_ext 4 _ _ (λ j a. sum_ext 4 _ _ (λ i b. ap f (at sy sx j i h a b))))))
    where
      at : (sy sx j i : ℕ) → sx < w → j < 4 → i < 4 → cell_at (sy * w + sx) (j * 4 + i) ≡ (sy * 4 + j) * (w * 4) + (sx * 4 + i)
      at sy sx j i h a b =
          let p : 4 * ((sy * w + sx) / w) + (j * 4 + i) / 4 ≡ sy * 4 + j = omega (arith, hi sy sx h) in
          let q : 4 * ((sy * w + sx) % w) + (j * 4 + i) % 4 ≡ sx * 4 + i = omega (arith, lo sy sx h) in
          ap₂ (λ (x y : ℕ). x * (w * 4) + y) p q

pub sum_subs : (f : ℕ → ℕ) (log2 : ℕ) → 2 ≤ log2 → log2 ≤ 5
    → sum_to (area log2) f ≡ sum_to (subs log2) (λ s. sum_to 16 (λ k. f (cell log2 s k)))
sum_subs f =
    by_size (λ log2. sum_to (area log2) f ≡ sum_to (subs log2) (λ s. sum_to 16 (λ k. f (cell log2 s k))))
    (sum_blocks 1 (λ y x h. omega arith) (λ y x h. omega arith) f)
    (sum_blocks 2 (λ y x h. omega arith) (λ y x h. omega arith) f)
    (sum_blocks 4 (λ y x h. omega arith) (λ y x h. omega arith) f)
    (sum_blocks 8 (λ y x h. omega arith) (λ y x h. omega arith) f)

-- ---- where a place stands
pub sub_of_cell : (s k : ℕ) (log2 : ℕ) → 2 ≤ log2 → log2 ≤ 5 → s < subs log2 → k < 16 → sub_of log2 (cell log2 s k) ≡ s
sub_of_cell s k =
    by_size (λ log2. s < subs log2 → k < 16 → sub_of log2 (cell log2 s k) ≡ s)
    (λ h u. omega arith) (λ h u. omega arith) (λ h u. omega arith) (λ h u. omega arith)

pub cell_inside : (s k : ℕ) (log2 : ℕ) → 2 ≤ log2 → log2 ≤ 5 → s < subs log2 → k < 16 → cell log2 s k < area log2
cell_inside s k =
    by_size (λ log2. s < subs log2 → k < 16 → cell log2 s k < area log2)
    (λ h u. omega arith) (λ h u. omega arith) (λ h u. omega arith) (λ h u. omega arith)

pub sub_few : (p : ℕ) (log2 : ℕ) → 2 ≤ log2 → log2 ≤ 5 → p < area log2 → sub_of log2 p < subs log2
sub_few p =
    by_size (λ log2. p < area log2 → sub_of log2 p < subs log2)
    (λ h. omega arith) (λ h. omega arith) (λ h. omega arith) (λ h. omega arith)

pub subs_few : (log2 : ℕ) → 2 ≤ log2 → log2 ≤ 5 → subs log2 ≤ 64
subs_few = by_size (λ log2. subs log2 ≤ 64) (omega arith) (omega arith) (omega arith) (omega arith)

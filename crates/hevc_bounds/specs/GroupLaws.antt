-- The groups of positions of the last level: group g has the 2 ^ suffix_bits g positions from least_of g on, and the greatest ends with the block. Assumes nothing.
use Rattle.std.specs.Prelude.{ℕ, zero, suc, ◌+◌, ◌-◌, ◌*◌, ◌^◌, ◌≤◌, ◌<◌, ◌≡◌, refl, Bool, true, false, ltb, eqb}
use Rattle.std.proofs.Common.{arith, pow_pos, ltb-true, ltb-false, eqb-true}
use Rattle.std.proofs.lemmas.Bool.{eqb-false}
use Rattle.tables.specs.Table.{eq_below}
use Rattle.trees.specs.ReaderLaws.{Rising, Group}
use Rattle.hevc_residual.specs.Head.{least_of, suffix_bits, greatest_group}

least_suc : (g : ℕ) → g < 9 → least_of (suc g) ≡ least_of g + 2 ^ suffix_bits g
unfolding least_of
least_suc g h = eq_below (λ g. least_of (suc g)) (λ g. least_of g + 2 ^ suffix_bits g) 9 tt g h

-- the greatest group ends with the block, for log2 = k + 2
least_end : (k : ℕ) → k < 4 → 2 ^ (k + 2) ≡ least_of (2 * (k + 2) - 1) + 2 ^ suffix_bits (2 * (k + 2) - 1)
unfolding least_of
least_end k h = eq_below (λ k. 2 ^ (k + 2)) (λ k. least_of (2 * (k + 2) - 1) + 2 ^ suffix_bits (2 * (k + 2) - 1)) 4 tt k h

rising : (f : ℕ → ℕ) (top : ℕ) → ((g : ℕ) → g < top → f g ≤ f (suc g)) → Rising f top
rising f top s i zero h t = let e : i ≡ 0 = omega arith in rw e (omega arith)
rising f top s i (suc j) h t = go (eqb i (suc j)) refl (λ m. rising f top s i j m (omega arith))
  where
    go : (d : Bool) → eqb i (suc j) ≡ d → (i ≤ j → f i ≤ f j) → f i ≤ f (suc j)
    go true e r = rw (eqb-true i (suc j) e) (omega arith)
    go false e r = omega (arith, r (omega (arith, eqb-false i (suc j) e)), s j (omega arith))

module _ (log2 : ℕ) (low : 2 ≤ log2) (high : log2 ≤ 5) where
  pub least_rising : Rising least_of (greatest_group log2)
  least_rising = rising least_of (greatest_group log2) (λ g h. omega (arith, least_suc g (omega arith)))

  end_of : 2 ^ log2 ≡ least_of (greatest_group log2) + 2 ^ suffix_bits (greatest_group log2)
  end_of = let e : log2 - 2 + 2 ≡ log2 = omega arith in rw e at (least_end (log2 - 2) (omega arith))

  -- a position is its group's least and a suffix
  pub suffix_fits : (x g : ℕ) → x < 2 ^ log2 → Group least_of (greatest_group log2) x g → x - least_of g < 2 ^ suffix_bits g
  suffix_fits x g h k = go (ltb g (greatest_group log2)) refl
    where
      go : (d : Bool) → ltb g (greatest_group log2) ≡ d → x - least_of g < 2 ^ suffix_bits g
      go true e = let m : g < greatest_group log2 = ltb-true g (greatest_group log2) e in omega (arith, k.over m, least_suc g (omega arith))
      go false e =
          let m : g ≡ greatest_group log2 = omega (arith, ltb-false g (greatest_group log2) e, k.upto) in
          rw m (omega (arith, end_of, pow_pos (suffix_bits (greatest_group log2))))

  pub suffix_group : (g s : ℕ) → g ≤ greatest_group log2 → s < 2 ^ suffix_bits g
      → Group least_of (greatest_group log2) (least_of g + s) g × (least_of g + s < 2 ^ log2)
  suffix_group g s t h = (
    record { upto = t; under = omega arith; over = λ m. omega (arith, least_suc g (omega arith)) },
    go (ltb g (greatest_group log2)) refl,
  )
    where
      go : (d : Bool) → ltb g (greatest_group log2) ≡ d → least_of g + s < 2 ^ log2
      go true e =
          let m : g < greatest_group log2 = ltb-true g (greatest_group log2) e in
          omega (arith, least_suc g (omega arith), least_rising (suc g) (greatest_group log2) m (omega arith), end_of)
      go false e =
          let m : g ≡ greatest_group log2 = omega (arith, ltb-false g (greatest_group log2) e) in
          let q : s < 2 ^ suffix_bits (greatest_group log2) = rw m at h in
          rw m (omega (arith, end_of))

-- Magnitudes and levels, exact. Assumes nothing.
use Prim.Native.Nat.{ℕ, zero, suc, ◌+◌, ◌-◌, ◌^◌, ◌≤◌, ◌<◌}
use Rattle.std.specs.Prelude.{◌≡◌, refl, Bool, true, false, cond, leb, ltb, ℤ, pos, length, get_or, set}
use Rattle.std.proofs.Math.Path.{sym, ap}
use Rattle.std.proofs.Common.{subst, ◌∙◌}
use mathlib.Core.List.{List, [], ◌∷◌}
use native.Mathlib.Omega.{arith}
use Rattle.std.proofs.Math.IntN.{nat_abs}
use Rattle.std.proofs.Math.ListN.{length-set}
use borrow.Author.Tests.{ltb-true, ltb-false, leb-true}
use Rattle.trees.specs.Levels.{negative, signed, in_range}
use Rattle.trees.specs.Shapes.{eg_base}
use Rattle.trees.specs.TreeLaws.{Writes, writes_done, writes_bypass, writes_bind, writes_as, Exact, exact_done, exact_stop, exact_bypass, exact_bind, exact_as}
use Rattle.trees.specs.ReaderLaws.{clash, writes_if, exact_if, Rising, Group}
use Rattle.trees.specs.ShapeLaws.{count_writes, count_exact, golomb_writes, golomb_exact}
use Rattle.trees.specs.ListLaws.{All, Falling}
use Rattle.trees.specs.LevelLaws.{signed_of, signed_is, Kept, kept_none, kept_set, kept_at}
use Rattle.h264_block.specs.Layout.{at_magnitude}
use Rattle.h264_block.specs.Block.{level_at, magnitude_s, levels_s}

-- ---- a magnitude less 1
rising : (top : ℕ) → Rising (λ g. g) top
rising top i j h t = h

module _ (ones bigs : ℕ) (v : List ℤ → ℕ) (w : List ℤ) where
  pub magnitude_writes : v w < 65549 → Writes (magnitude_s ones bigs v) w (λ a. a ≡ v w)
  unfolding magnitude_s
  magnitude_writes h = writes_bind (count_writes (λ g. g) 14 v w (at_magnitude ones bigs) (omega arith)) (λ q g. writes_if (ltb q 14)
      (λ e. writes_done (omega (arith, g.under, g.over (ltb-true q 14 e))))
      (λ e. writes_bind (golomb_writes 16 0 (λ w. v w - 14) w (omega (arith, g.under, g.upto, ltb-false q 14 e))) (λ x u.
      writes_done (omega (arith, u, g.under, g.upto, ltb-false q 14 e)))))

  pub magnitude_exact : Exact (magnitude_s ones bigs v) w (λ a. a < 65549) (λ a. a ≡ v w)
  unfolding magnitude_s
  magnitude_exact = exact_bind (count_exact (λ g. g) 14 v w (at_magnitude ones bigs) (rising 14)) (λ q top. exact_if (ltb q 14)
      (λ e. let h = ltb-true q 14 e in exact_done (omega arith, λ u. record { upto = top; under = omega arith; over = λ m. omega arith }))
      (λ e.
      let four : q ≡ 14 = omega (arith, ltb-false q 14 e, top) in
      exact_bind (golomb_exact 16 0 (λ w. v w - 14) w) (λ x u. exact_done (
        (omega (arith, u), λ y. record { upto = top; under = omega arith; over = λ m. absurd (omega arith) }),
        λ y. omega arith,
      ))))

-- ---- the levels
module _ (w : List ℤ) where
  -- what a level that can be written is: not zero, and in range
  pub record Fine (k : ℕ) : Type 0 where
    pub some : 0 < nat_abs (level_at w k)
    pub ranged : in_range 15 (negative (level_at w k)) (nat_abs (level_at w k)) ≡ true

  -- the levels at the places ks are those wanted
  abbrev pub Got : List ℤ → List ℕ → Type 0
  Got m ks = All (λ k. get_or m k (pos 0) ≡ level_at w k) ks

  ranged_most : (neg : Bool) (m : ℕ) → in_range 15 neg m ≡ true → m ≤ 32768
  ranged_most true m e = leb-true m (2 ^ 15) e
  ranged_most false m e = let h = ltb-true m (2 ^ 15) e in omega arith

  pub levels_writes : (ks : List ℕ) (n ones bigs : ℕ) (l : List ℤ) → Falling n ks → n ≤ length l → All Fine ks
      → Writes (levels_s ks ones bigs l) w (λ m. Got m ks × Kept l m ks)
  unfolding levels_s
  levels_writes [] n ones bigs l f h a = writes_done (tt, kept_none l)
  levels_writes (k ∷ ks) n ones bigs l f h a =
      let z = level_at w k in
      let most = ranged_most (negative z) (nat_abs z) a.0.ranged in
      writes_bind (magnitude_writes ones bigs (λ w. nat_abs (level_at w k) - 1) w (omega arith)) (λ v e.
      let whole : suc v ≡ nat_abs z = omega (arith, a.0.some) in
      let same : signed (negative z) (suc v) ≡ z = ap (signed (negative z)) whole ∙ signed_of z in
      writes_bypass (writes_if (in_range 15 (negative z) (suc v))
      (λ q. writes_as (levels_writes ks k _ _ (set l k (signed (negative z) (suc v))) f.1 (rw length-set (omega (arith, f.0))) a.1) (λ m r. (
        (kept_at l m k ks (signed (negative z) (suc v)) (omega (arith, f.0)) f.1 r.1 ∙ same, r.0),
        kept_set l m k ks (signed (negative z) (suc v)) r.1,
      )))
      (λ q. clash q (ap (in_range 15 (negative z)) whole ∙ a.0.ranged))))

  pub levels_exact : (ks : List ℕ) (n ones bigs : ℕ) (l : List ℤ) → Falling n ks → n ≤ length l
      → Exact (levels_s ks ones bigs l) w (λ m. Kept l m ks × (Got m ks → All Fine ks)) (λ m. Got m ks)
  unfolding levels_s
  levels_exact [] n ones bigs l f h = exact_done (kept_none l, λ g. tt)
  levels_exact (k ∷ ks) n ones bigs l f h =
      exact_bind (magnitude_exact ones bigs (λ w. nat_abs (level_at w k) - 1) w) (λ v u.
      exact_bypass (λ neg. exact_if (in_range 15 neg (suc v))
      (λ q. exact_as (levels_exact ks k _ _ (set l k (signed neg (suc v))) f.1 (rw length-set (omega (arith, f.0)))) (λ m r.
      let is : Got m (k ∷ ks) → signed neg (suc v) ≡ level_at w k = λ g.
      sym (kept_at l m k ks (signed neg (suc v)) (omega (arith, f.0)) f.1 r.0) ∙ g.0 in
      let s = signed_is neg (suc v) (omega arith) in
      let size : Got m (k ∷ ks) → nat_abs (level_at w k) ≡ suc v = λ g. sym (ap nat_abs (is g)) ∙ s.0 in
      let sign : Got m (k ∷ ks) → negative (level_at w k) ≡ neg = λ g. sym (ap negative (is g)) ∙ s.1 in (
        (
          (
            (
              kept_set l m k ks (signed neg (suc v)) r.0,
              λ g. (record { some = omega (arith, size g); ranged = rw (size g, sign g) q }, r.1 g.1),
            ),
            λ g. omega (arith, size g),
          ),
          sign,
        ),
        λ g. g.1,
      )))
      (λ q. exact_stop)))

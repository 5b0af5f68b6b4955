-- What is told of the levels stored goes on with each of them. Assumes nothing.
use Prim.Native.Nat.{ℕ, zero, suc, ◌+◌, ◌/◌, ◌^◌, ◌≤◌, ◌<◌, max}
use Rattle.std.specs.Prelude.{◌≡◌, refl, Bool, true, false, ◌&&◌, ℤ, pos, nat_abs, length, get_or, set, replicate, eqb, leb, Result, Ok}
use Rattle.std.proofs.Math.Path.{sym, ap, subst}
use Rattle.std.proofs.Common.{◌∙◌, div-mul-le_self, le-div_iff_mul-le, pow_pos}
use mathlib.Core.List.{List, [], ◌∷◌}
use native.Mathlib.Omega.{arith}
use Rattle.std.proofs.Math.Nat.{zero-div}
use borrow.Author.Tests.{eqb-true, leb-true, leb-false}
use Rattle.tables.specs.Table.{le_below}
use Rattle.trees.specs.LevelLaws.{signed_is}
use Rattle.hevc_residual.specs.declared.params.Params.{Params}
use Rattle.hevc_residual.specs.Wanted.{area}
use Rattle.hevc_residual.specs.Remainder.{signed}
use Rattle.hevc_residual.specs.Extent.{reach_of, side, row_at, row_extent_of}
use Rattle.hevc_residual.specs.ReachLaws.{reach_set, reach_zeros}
use Rattle.hevc_residual.specs.Residual.{greatest_of}
use Rattle.hevc_stored.specs.declared.stored.Stored.{Stored}
use Rattle.bins.specs.declared.state.Refusal.{Refusal}
use Rattle.hevc_levels.specs.declared.levels.Leveled.{Leveled}
use Rattle.hevc_stored.specs.StoredAgree.{stored_of, Keeps}
use Rattle.hevc_levels.specs.KeptAgree.{KeepsBehind}

-- ---- a level at a free place
pub greatest_stored : (l : List ℤ) (at : ℕ) (v : ℤ) → at < length l → nat_abs (get_or l at (pos 0)) ≡ 0 → greatest_of (set l at v) ≡ max (greatest_of l) (nat_abs v)
unfolding greatest_of
greatest_stored [] at v h q = absurd (omega arith)
greatest_stored (w ∷ l) zero v h q = omega arith
greatest_stored (w ∷ l) (suc at) v h q = omega (arith, greatest_stored l at v (omega arith) q)

pub greatest_zeros : (n : ℕ) → greatest_of (replicate n (pos 0)) ≡ 0
unfolding greatest_of
greatest_zeros zero = refl
greatest_zeros (suc n) = omega (arith, greatest_zeros n)

-- ---- the row of the further of two places
no_less : (a b n : ℕ) → 0 < n → a ≤ b → a / n ≤ b / n
no_less a b n h q = (le-div_iff_mul-le {k = n} {x = a / n} {y = b} h).1 (omega (arith, div-mul-le_self a n))

further_row : (a b n : ℕ) → 0 < n → max a b / n ≡ max (a / n) (b / n)
further_row a b n some = go (leb a b) refl
  where
    go : (d : Bool) → leb a b ≡ d → max a b / n ≡ max (a / n) (b / n)
    go true q =
        let h = leb-true a b q in
        let e : max a b ≡ b = omega arith in
        ap (λ i. i / n) e ∙ omega (arith, no_less a b n some h)
    go false q =
        let h = leb-false a b q in
        let e : max a b ≡ a = omega arith in
        ap (λ i. i / n) e ∙ omega (arith, no_less b a n some (omega arith))

-- ---- from level to level
pub place_few : (p : Params) (at : ℕ) → p.log2 ≤ 5 → at < area p → at < 1024
place_few p at h g = omega (arith, le_below (λ k. 4 ^ k) (λ _. 1024) 6 tt p.log2 (omega arith))

both_true : (a b : Bool) → (a && b) ≡ true → (a ≡ true) × (b ≡ true)
both_true true b q = (refl, q)
both_true false b q = let z : ◌≡◌ {A = ℕ} 0 1 = cc in absurd (omega arith)

-- nothing is stored yet
pub keeps_none : (p : Params) (l : List ℤ) → l ≡ replicate (area p) (pos 0) → Keeps p (record { greatest = 0; far = 0; clean = true }) l
unfolding row_extent_of
keeps_none p l q =
    record {
      greatest = λ _. sym (ap greatest_of q ∙ greatest_zeros (area p));
      row = zero-div (side p) ∙ sym (ap (λ (l : List ℤ). reach_of (row_at p) 0 l) q ∙ reach_zeros (row_at p) (area p) 0);
    }

module _ (p : Params) (k : Stored) (l : List ℤ) (h : Keeps p k l) (at : ℕ) (inside : at < length l) (neg : Bool) (m : ℕ) (some : 1 ≤ m) where
  size : nat_abs (signed neg m) ≡ m
  size = (signed_is neg m some).0

  pub keeps_stored : (free : Bool) → free ≡ eqb (nat_abs (get_or l at (pos 0))) 0 → (t : Stored) → t ≡ stored_of k free m at → (l' : List ℤ) → l' ≡ set l at (signed neg m)
      → Keeps p t l'
  unfolding row_extent_of
  keeps_stored free e t tq l' lq =
      subst (λ (t : Stored). Keeps p t l') (sym tq)
      (subst (λ (z : List ℤ). Keeps p (stored_of k free m at) z) (sym lq)
      (record {
        greatest = λ c.
            let b = both_true k.clean free c in
            let z = eqb-true (nat_abs (get_or l at (pos 0))) 0 (sym e ∙ b.1) in
            omega (arith, h.greatest b.0, greatest_stored l at (signed neg m) inside z, size);
        row =
            let i : 0 + at ≡ at = omega arith in
            further_row k.far at (side p) (pow_pos p.log2) ∙ ap (λ n. max n (at / side p)) h.row
            ∙ ap (λ n. max (reach_of (row_at p) 0 l) (n / side p)) (sym i)
            ∙ sym (reach_set (row_at p) l 0 at (signed neg m) inside (omega (arith, size)));
      }))

-- ---- an answer taken apart
pub keeps_leveled : (p : Params) (r : Result Leveled Refusal) (v : Leveled) (l : List ℤ) → KeepsBehind p r l → r ≡ Ok v → Keeps p v.stored l
keeps_leveled p r v l h q = subst (λ (z : Result Leveled Refusal). KeepsBehind p z l) q h

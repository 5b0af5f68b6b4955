-- The loop that puts signs into a number: what is left of them. Assumes nothing.
use Prim.Native.Nat.{ℕ, suc, ◌+◌, ◌-◌, ◌*◌, ◌^◌, ◌≤◌, ◌<◌}
use Rattle.std.specs.Prelude.{◌≡◌, refl, true, false, ℤ, pos, negsuc, get_or, drop}
use Rattle.std.proofs.Math.Path.{sym, ap, subst}
use Rattle.std.proofs.Common.{◌∙◌, add-one, pow_mono, drop-cons, ltb-true}
use mathlib.Core.List.{List}
use native.Mathlib.Omega.{arith}
use Rattle.std.proofs.Math.Nat.{pow-suc}
use Rattle.std.proofs.Math.ListN.{length}
use Rattle.std.specs.Int.Signed.{lt_z}
use Rattle.bins.specs.Engine.{bit_no}
use Rattle.hevc_residual.specs.Wanted.{Wanted, negative}
use Rattle.hevc_residual.specs.SubBlock.{signs_no}
use Rattle.hevc_wanted.specs.Shown.{Shows}

-- ---- one sign
pub minus_one : (z : ℤ) → lt_z z (pos 0) ≡ true → 1 ≡ bit_no (negative z)
minus_one (pos n) e = let h = ltb-true n 0 e in absurd (omega arith)
minus_one (negsuc n) e = refl

pub plus_none : (z : ℤ) → lt_z z (pos 0) ≡ false → 0 ≡ bit_no (negative z)
plus_none (pos n) e = refl
plus_none (negsuc n) e = let z : ◌≡◌ {A = ℕ} 0 1 = cc in absurd (omega arith)

-- ---- the loop, at sign j of n; ks are the places
module _ (levels : List ℤ) (ks : List ℕ) (n : ℕ) where
  pub record Signing (v j : ℕ) : Type 0 where
    pub few : j ≤ n
    pub small : v < 2 ^ j
    pub left : (lv : ℕ → Wanted → ℤ) (w : Wanted) → Shows lv w levels → signs_no lv n ks w 0 ≡ signs_no lv (n - j) (drop j ks) w v

  pub signing_begins : Signing 0 0
  signing_begins = record {
    few = omega arith;
    small = omega arith;
    left = λ lv w h. let q : n ≡ n - 0 = omega arith in ap (λ i. signs_no lv i ks w 0) q;
  }

  module _ (v j : ℕ) (h : Signing v j) where
    pub signing_small : j < n → n ≤ 16 → v ≤ 32767
    signing_small more most = let p : 2 ^ j ≤ 2 ^ 15 = pow_mono {i = j} {j = 15} (omega arith) in omega (arith, h.small)

    pub signing_on : j < n → n ≤ length ks → (k b : ℕ) → k ≡ get_or ks j 0 → k < 16 → b ≤ 1 → b ≡ bit_no (negative (get_or levels k (pos 0)))
        → Signing (v * 2 + b) (j + 1)
    unfolding signs_no
    signing_on more most k b at inside bit q = record {
      few = omega arith;
      small = subst (λ i. v * 2 + b < 2 ^ i) (sym (add-one j)) (omega (arith, h.small, pow-suc 2 j));
      left = λ lv w g.
          let e : n - j ≡ suc (n - suc j) = omega arith in
          let i : j < length ks = omega arith in
          let s : bit_no (negative (lv (get_or ks j 0) w)) ≡ b =
          ap (λ i. bit_no (negative (lv i w))) (sym at) ∙ ap (λ (z : ℤ). bit_no (negative z)) (sym (g k inside)) ∙ sym q in
          h.left lv w g ∙ ap (λ i. signs_no lv i (drop j ks) w v) e
          ∙ ap (λ (l : List ℕ). signs_no lv (suc (n - suc j)) l w v) (drop-cons ks j 0 i)
          ∙ ap (λ u. signs_no lv (n - suc j) (drop (suc j) ks) w (v * 2 + u)) s
          ∙ ap (λ i. signs_no lv (n - i) (drop i ks) w (v * 2 + b)) (sym (add-one j));
    }

    pub signing_ends : n ≤ j → (v < 2 ^ n) × ((lv : ℕ → Wanted → ℤ) (w : Wanted) → Shows lv w levels → v ≡ signs_no lv n ks w 0)
    unfolding signs_no
    signing_ends m =
        let q : j ≡ n = omega (arith, h.few) in
        let z : n - j ≡ 0 = omega arith in
        (subst (λ i. v < 2 ^ i) q h.small, λ lv w g. sym (h.left lv w g ∙ ap (λ i. signs_no lv i (drop j ks) w v) z))

-- Laws of a heat map's steps. Assumes nothing.
use Prim.Native.Nat.{ℕ, zero, suc, ◌+◌, ◌-◌, ◌*◌, ◌/◌, ◌≤◌, ◌<◌, min}
use native.Mathlib.Omega.{arith}
use Rattle.std.proofs.Math.Nat.{div-eq_of_lt}
use Rattle.std.proofs.Common.{mul_comm, sym, ◌∙◌}
use Rattle.std.specs.Prelude.{◌≡◌, refl, get_or}
use Rattle.std.proofs.Math.Path.{ap}
use Rattle.std.proofs.Math.Arith.{digits_div}
use Rattle.heat.specs.Heat.{scaled, marks, mark_of}

-- ---- from 0 to top: 0 for never, top for always
pub scaled_most : (top count blocks : ℕ) → scaled top count blocks ≤ top
unfolding scaled
scaled_most top count zero = omega arith
scaled_most top count (suc b) = omega arith

pub scaled_never : (top blocks : ℕ) → scaled top 0 blocks ≡ 0
unfolding scaled
scaled_never top zero = refl
scaled_never top (suc b) = let q : (0 * top + b) / suc b ≡ 0 = div-eq_of_lt (omega arith) in omega arith

pub scaled_always : (top blocks : ℕ) → 0 < blocks → scaled top blocks blocks ≡ top
unfolding scaled
scaled_always top zero h = absurd (omega arith)
scaled_always top (suc b) h =
    let q : (suc b * top + b) / suc b ≡ top = ap (λ (x : ℕ). (x + b) / suc b) (mul_comm (suc b) top) ∙ digits_div top (omega arith) in omega arith

-- ---- as the code has it
module _ (top count blocks : ℕ) where
  pub step_none : blocks ≡ 0 → 0 ≡ scaled top count blocks
  unfolding scaled
  step_none z = ap (scaled top count) (sym z)

  module _ (c d n s : ℕ) (h : blocks ≡ 0 → ⊥) (p : c ≡ count) (q : d ≡ blocks - 1) (r : n ≡ blocks) (e : s ≡ (c * top + d) / n) where
    step_is : min top s ≡ scaled top count blocks
    unfolding scaled
    step_is =
        ap (min top) (e ∙ ap (λ (x : ℕ). (x * top + d) / n) p ∙ ap (λ (x : ℕ). (count * top + x) / n) q ∙ ap (λ (x : ℕ). (count * top + (blocks - 1)) / x) r)
        ∙ go blocks h
      where
        go : (m : ℕ) → (m ≡ 0 → ⊥) → min top ((count * top + (m - 1)) / m) ≡ scaled top count m
        go zero k = absurd (k refl)
        go (suc b) k = let w : suc b - 1 ≡ b = omega arith in ap (λ (x : ℕ). min top ((count * top + x) / suc b)) w

    pub step_over : top < s → top ≡ scaled top count blocks
    step_over k = let w : top ≡ min top s = omega arith in w ∙ step_is

    pub step_under : s ≤ top → s ≡ scaled top count blocks
    step_under k = let w : s ≡ min top s = omega arith in w ∙ step_is

-- ---- a character
pub mark_at : (n k : ℕ) → n ≡ k → mark_of k ≡ mark_of n
mark_at n k e = ap mark_of (sym e)

past : (k n : ℕ) → k ≤ n → (n ≡ k → ⊥) → k + 1 ≤ n
past k n h e = omega arith

some : (n : ℕ) → (n ≡ 0 → ⊥) → 1 ≤ n
some n e = omega arith

from_nine : (n : ℕ) → 9 ≤ n → 64 ≡ mark_of n
unfolding mark_of
from_nine n h =
    let e : suc (suc (suc (suc (suc (suc (suc (suc (suc (n - 9))))))))) ≡ n = omega arith in
    from (n - 9) ∙ ap (λ (x : ℕ). get_or marks x 64) e
  where
    from : (m : ℕ) → 64 ≡ get_or marks (suc (suc (suc (suc (suc (suc (suc (suc (suc m))))))))) 64
    from zero = refl
    from (suc m) = refl

pub mark_last : (n : ℕ) → (n ≡ 0 → ⊥) → (n ≡ 1 → ⊥) → (n ≡ 2 → ⊥) → (n ≡ 3 → ⊥) → (n ≡ 4 → ⊥) → (n ≡ 5 → ⊥) → (n ≡ 6 → ⊥) → (n ≡ 7 → ⊥) → (n ≡ 8 → ⊥)
    → 64 ≡ mark_of n
mark_last n h0 h1 h2 h3 h4 h5 h6 h7 h8 =
    let l = some n h0 in
    from_nine n (past 8 n (past 7 n (past 6 n (past 5 n (past 4 n (past 3 n (past 2 n (past 1 n l h1) h2) h3) h4) h5) h6) h7) h8)

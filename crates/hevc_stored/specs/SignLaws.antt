-- The next sign of a sub-block. Assumes nothing.
use Rattle.std.specs.Prelude.{ℕ, zero, suc, ◌-◌, ◌/◌, ◌%◌, ◌^◌, ◌≡◌, refl, eqb}
use Rattle.std.proofs.Common.{ap, arith}
use Rattle.hevc_residual.specs.SubBlock.{negative_now}

-- ---- the next sign
pub sign_hidden_lem : (left signs sum : ℕ) → left ≡ 0 → eqb (sum % 2) 1 ≡ negative_now left signs sum
unfolding negative_now
sign_hidden_lem zero signs sum q = refl
sign_hidden_lem (suc n) signs sum q = absurd (omega arith)

pub sign_coded : (left signs sum : ℕ) → (left ≡ 0 → ⊥) → eqb (signs / 2 ^ (left - 1) % 2) 1 ≡ negative_now left signs sum
unfolding negative_now
sign_coded zero signs sum h = absurd (h refl)
sign_coded (suc n) signs sum h = let q : suc n - 1 ≡ n = omega arith in ap (λ k. eqb (signs / 2 ^ k % 2) 1) q

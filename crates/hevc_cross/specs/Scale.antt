-- Cross-component prediction (H.265 7.3.8.12) as a tree. What is wanted of it is one scale: w says which, of any B.
use Rattle.std.specs.Prelude.{ℕ, zero, suc, ◌+◌, ◌*◌, ◌^◌, Bool, ◌||◌, leb, eqb, ℤ, pos, nat_abs}
use Rattle.bins.specs.Syn.{Syn, done, bin, ◌>>=◌}
use Rattle.bins.specs.Readers.{prefix_s}
use Rattle.hevc_residual.specs.Layout.{block_contexts}
use Rattle.hevc_residual.specs.Wanted.{negative}
use Rattle.hevc_residual.specs.Remainder.{signed}

-- contexts, behind a block's: for each of the two chroma components four of the value, then for each one of the sign
abbrev pub at_value : ℕ
at_value = block_contexts

abbrev pub at_sign : ℕ
at_sign = at_value + 2 * 4

-- the scale's magnitude for a value of log2_res_scale_abs_plus1: 0, 1, 2, 4, 8
abbrev pub magnitude : ℕ → ℕ
magnitude zero = 0
magnitude (suc v) = 2 ^ v

-- 0 to 4 ones, left at the first zero; then, unless the value is 0, a sign. c is the chroma component, 0 or 1
module _ {B : Type 0} (w : B → ℤ) (c : ℕ) where
  abbrev pub value_s : Syn B ℕ
  value_s = prefix_s (at_value + 4 * c) 0 4 0 (λ g t. leb (magnitude (suc g)) (nat_abs (w t)))

  abbrev pub sign_s : ℕ → Syn B ℤ
  sign_s zero = done (pos 0)
  sign_s (suc v) = bin (at_sign + c) (λ t. negative (w t)) (λ b. done (signed b (magnitude (suc v))))

  unfoldable pub scale_s : Syn B ℤ
  scale_s = value_s >>= sign_s

-- the nine scales
unfoldable pub is_scale : ℤ → Bool
is_scale z = let m = nat_abs z in eqb m 0 || (eqb m 1 || (eqb m 2 || (eqb m 4 || eqb m 8)))

-- read, where nothing is wanted; and for a scale that is wanted
abbrev pub scale : ℕ → Syn ℤ ℤ
scale c = scale_s (λ z. z) c

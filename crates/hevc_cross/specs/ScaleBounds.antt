-- What any reading of a scale can come to: one of the nine, by five bins at most, with the contexts behind a block's; it never stops and never aligns.
-- Assumes nothing.
use Rattle.std.specs.Prelude.{ℕ, zero, suc, ◌+◌, ◌*◌, ◌≤◌, ◌<◌, ◌≡◌, true, ℤ}
use Rattle.std.proofs.Common.{arith}
use Rattle.bins.specs.Tags.{context_count}
use Rattle.trees.specs.Every.{Bounds, Counted, Each, each_done, each_bin, each_bind, prefix_each}
use Rattle.hevc_cross.specs.Scale.{at_value, sign_s, scale_s, is_scale}
use Rattle.hevc_cross.specs.ScaleLaws.{none_nine, nine}

abbrev pub scale_bounds : Bounds
scale_bounds = record { stops = λ r n. ⊥; aligns = λ n. ⊥; contexts = λ c. (at_value ≤ c) × (c < context_count) }

pub scale_each : {B : Type 0} {n : ℕ} (w : B → ℤ) (c : ℕ) → c ≤ 1 → Each {B = B} scale_bounds (λ z m. (is_scale z ≡ true) × (m ≤ n + 5)) n (scale_s w c)
unfolding scale_s
scale_each {B} {n} w c h =
    each_bind (prefix_each (at_value + 4 * c) 0 4 0 _ (λ j k l. (omega arith, omega arith))) (λ v m u. signed v m u)
  where
    signed : (v m : ℕ) → Counted 0 4 n v m → Each {B = B} scale_bounds (λ z m. (is_scale z ≡ true) × (m ≤ n + 5)) m (sign_s w c v)
    signed zero m u = each_done (none_nine, omega (arith, u.bins))
    signed (suc v) m u = each_bin (omega arith, omega arith) (λ b. each_done (nine v b (omega (arith, u.upto)), omega (arith, u.bins)))

-- coeff_abs_level_remaining (H.265 9.3.3.11): how it is read, and how its Rice parameter and statistic move.
use Rattle.std.specs.Prelude.{ℕ, zero, suc, ◌+◌, ◌-◌, ◌*◌, ◌/◌, ◌^◌, min, max, Bool, true, false, ◌&&◌, ◌||◌, cond, ltb, leb, eqb, ℤ, pos, negsuc}
use Rattle.bins.specs.Syn.{done, stop, ◌>>=◌}
use Rattle.bins.specs.Readers.{bits_s, ones_s}
pub use Rattle.trees.specs.Levels.{in_range, signed}
pub use Rattle.trees.specs.Shapes.{eg_base}
use Rattle.hevc_residual.specs.declared.params.Params.{Params}
use Rattle.hevc_residual.specs.Wanted.{Wanted, S}

-- ---- the coefficient range
-- T, where the range is −2^T to 2^T−1 (7.4.3.2.2, CoeffMinY and CoeffMaxY)
abbrev pub log2_transform_range : Params → ℕ
log2_transform_range p = cond p.extended (max 15 (p.depth + 6)) 15

-- ---- the binarization, where v is wanted
-- Exp-Golomb of order k (9.3.3.3); lengths that no level in range has are 8, given behind the prefix
unfoldable pub egk_s : ℕ → (Wanted → ℕ) → S ℕ
egk_s k v =
    ones_s 31 0 (λ g t. leb (eg_base k (suc g)) (v t)) >>= λ n. elim (leb 31 n || leb 32 (n + k)) [
      | true ↦ stop 8
      | false ↦ bits_s (n + k) 0 (λ t. v t - eg_base k n) >>= λ x. done (eg_base k n + x)
    ]

-- the limited form (9.3.3.4): at maxPreExtLen ones no zero follows, and the suffix has T bits; 8 as above
unfoldable pub limited_s : ℕ → ℕ → (Wanted → ℕ) → S ℕ
limited_s T k v =
    let maxPreExtLen = 28 - T in
    ones_s maxPreExtLen 0 (λ g t. leb (eg_base k (suc g)) (v t)) >>= λ n.
    let escape_length = cond (eqb n maxPreExtLen) T (n + k) in
    elim (leb 32 n || (leb 32 k || ltb 32 escape_length)) [
      | true ↦ stop 8
      | false ↦ bits_s escape_length 0 (λ t. v t - eg_base k n) >>= λ x. done (eg_base k n + x)
    ]

-- up to four ones (9.3.3.2, truncated Rice); under four, cRiceParam suffix bits, else an escape
unfoldable pub remainder_s : Params → ℕ → (Wanted → ℕ) → S ℕ
unfolding egk_s limited_s
remainder_s p cRiceParam v =
    let high : Wanted → ℕ = λ t. v t - 4 * 2 ^ cRiceParam in
    let escape : S ℕ =
    elim p.extended [
      | true ↦ limited_s (log2_transform_range p) (cRiceParam + 1) high
      | false ↦ egk_s (cRiceParam + 1) high
    ] in
    ones_s 4 0 (λ g t. leb (suc g * 2 ^ cRiceParam) (v t)) >>= λ q. elim (ltb q 4) [
      | true ↦ bits_s cRiceParam 0 (λ t. v t - q * 2 ^ cRiceParam) >>= λ x. done (q * 2 ^ cRiceParam + x)
      | false ↦ escape >>= λ x. done (4 * 2 ^ cRiceParam + x)
    ]

-- ---- what a remainder that was read changes
-- cRiceParam, behind a level of magnitude m; without persistent Rice it stops at 4
unfoldable pub rice_next : Params → ℕ → ℕ → ℕ
rice_next p cRiceParam m =
    cond (ltb (3 * 2 ^ cRiceParam) m) (cond p.persistent (cRiceParam + 1) (min (cRiceParam + 1) 4)) cRiceParam

-- a statistic (StatCoeff), behind the first remainder v of a sub-block
unfoldable pub stat_next : ℕ → ℕ → ℕ
stat_next s v = cond (leb (3 * 2 ^ (s / 4)) v) (s + 1) (cond (ltb (2 * v) (2 ^ (s / 4)) && ltb 0 s) (s - 1) s)

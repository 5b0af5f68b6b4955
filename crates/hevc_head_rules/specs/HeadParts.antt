-- What is left of the head's tree behind each of its elements, and the prefix of a coordinate as the code asks for it. Assumes nothing.
use Rattle.std.specs.Prelude.{ℕ, suc, ◌+◌, ◌-◌, ◌*◌, ◌/◌, ◌≡◌, refl, Bool, true, false, cond, leb, eqb}
use Rattle.std.proofs.Common.{sym, ap, arith, add_assoc}
use Rattle.bins.specs.Syn.{done, ◌>>=◌}
use Rattle.bins.specs.Readers.{flag_if, bits_s, prefix_s}
use Rattle.hevc_residual.specs.declared.params.Params.{Params}
use Rattle.hevc_residual.specs.Wanted.{Wanted, S, area, outer_of, inner_of}
use Rattle.hevc_residual.specs.Scan.{Spot, spot}
use Rattle.hevc_residual.specs.Layout.{in_chroma}
use Rattle.hevc_residual.specs.Head.{Head, groups_s, last_prefix, last_wanted, least_of, suffix_bits, rdpcm_flag, rdpcm_dir, rdpcm_of, rdpcm_coded}
use Rattle.hevc_head_rules.specs.HeadOf.{placed_at}

-- the prefix of a coordinate, as the code asks for it
pub last_luma : (first : ℕ) (luma : Bool) (log2 : ℕ) (v : Wanted → ℕ) → luma ≡ true
    → prefix_s (first + (3 * (log2 - 2) + (log2 - 1) / 4)) ((log2 + 1) / 4) (2 * log2 - 1) 0 (λ g t. leb (least_of (suc g)) (v t)) ≡ last_prefix first luma log2 v
unfolding last_prefix
last_luma first true log2 v h =
    ap (λ b. prefix_s b ((log2 + 1) / 4) (2 * log2 - 1) 0 (λ g t. leb (least_of (suc g)) (v t))) (sym (add_assoc first (3 * (log2 - 2)) ((log2 - 1) / 4)))
last_luma first false log2 v h = let z : ◌≡◌ {A = ℕ} 0 1 = cc in absurd (omega arith)

pub last_chroma : (first : ℕ) (luma : Bool) (log2 : ℕ) (v : Wanted → ℕ) → luma ≡ false
    → prefix_s (first + 15) (log2 - 2) (2 * log2 - 1) 0 (λ g t. leb (least_of (suc g)) (v t)) ≡ last_prefix first luma log2 v
unfolding last_prefix
last_chroma first false log2 v h = refl
last_chroma first true log2 v h = let z : ◌≡◌ {A = ℕ} 0 1 = cc in absurd (omega arith)

-- ---- the head, call after call: what is left of its tree behind each
abbrev pub wanted_last : Params → Wanted → Spot
wanted_last p t = last_wanted p (outer_of p) (inner_of p) t (area p)

abbrev pub wanted_x : Params → Wanted → ℕ
wanted_x p t = cond (eqb p.scan 2) (wanted_last p t).y (wanted_last p t).x

abbrev pub wanted_y : Params → Wanted → ℕ
wanted_y p t = cond (eqb p.scan 2) (wanted_last p t).x (wanted_last p t).y

unfoldable pub behind_suffix_x : Params → Bool → Bool → Bool → ℕ → ℕ → ℕ → S Head
behind_suffix_x p skip flag dir gx gy sx =
    bits_s (suffix_bits gy) 0 (λ t. wanted_y p t - least_of gy) >>= λ sy.
    done (placed_at skip (rdpcm_of flag dir) (eqb p.scan 2) (least_of gx + sx) (least_of gy + sy))

unfoldable pub behind_groups : Params → Bool → Bool → Bool → ℕ → ℕ → S Head
unfolding behind_suffix_x
behind_groups p skip flag dir gx gy = bits_s (suffix_bits gx) 0 (λ t. wanted_x p t - least_of gx) >>= λ sx. behind_suffix_x p skip flag dir gx gy sx

unfoldable pub behind_group_x : Params → Bool → Bool → Bool → ℕ → S Head
unfolding behind_groups
behind_group_x p skip flag dir gx =
    (last_prefix 18 p.luma p.log2 (wanted_y p) >>= λ gy. done (spot gx gy)) >>= λ g. behind_groups p skip flag dir g.x g.y

unfoldable pub behind_dir : Params → Bool → Bool → Bool → S Head
unfolding behind_groups
behind_dir p skip flag dir = groups_s p.luma p.log2 (wanted_x p) (wanted_y p) >>= λ g. behind_groups p skip flag dir g.x g.y

unfoldable pub behind_flag : Params → Bool → Bool → S Head
unfolding behind_dir
behind_flag p skip flag = flag_if flag (118 + in_chroma p.luma 1) (λ t. rdpcm_dir t.rdpcm) >>= λ dir. behind_dir p skip flag dir

unfoldable pub behind_skip : Params → Bool → S Head
unfolding behind_flag
behind_skip p skip = flag_if (rdpcm_coded p skip) (116 + in_chroma p.luma 1) (λ t. rdpcm_flag t.rdpcm) >>= λ flag. behind_flag p skip flag

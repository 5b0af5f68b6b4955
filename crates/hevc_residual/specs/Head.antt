-- What stands before the sub-blocks (H.265 7.3.8.11): transform_skip_flag, explicit RDPCM, the last significant position.
use Rattle.std.specs.Prelude.{ℕ, zero, suc, ◌+◌, ◌-◌, ◌*◌, ◌/◌, ◌%◌, List, [], ◌∷◌, Bool, true, false, not, ◌&&◌, ◌||◌, cond, get_or, leb, eqb}
use Rattle.bins.specs.Syn.{done, ◌>>=◌}
use Rattle.bins.specs.Readers.{flag_if, bits_s, prefix_s}
use Rattle.hevc_residual.specs.declared.params.Params.{Params}
use Rattle.hevc_residual.specs.declared.params.Rdpcm.{Rdpcm}
use Rattle.hevc_residual.specs.declared.params.Rdpcm.TheVariants as of_rdpcm
use Rattle.hevc_residual.specs.Layout.{at_last_x, at_last_y, at_skip, at_rdpcm_flag, at_rdpcm_dir, in_chroma}
use Rattle.hevc_residual.specs.Scan.{Spot, spot}
use Rattle.hevc_residual.specs.Wanted.{Wanted, S, area, is_sig, spot_in, wanted_in}

-- ---- the flags
abbrev pub skip_or_bypass : Params → Bool → Bool
skip_or_bypass p skip = skip || p.lossless

-- where transform_skip_flag is coded, and explicit_rdpcm_flag; a flag that is not coded is 0 (7.4.9.11)
abbrev pub skip_coded : Params → Bool
skip_coded p = p.skip_allowed && not p.lossless

abbrev pub rdpcm_coded : Params → Bool → Bool
rdpcm_coded p skip = p.explicit_rdpcm && (p.inter && skip_or_bypass p skip)

-- explicit_rdpcm_flag and explicit_rdpcm_dir_flag of each choice (document 01's none, 0, 1), and the choice that they make
abbrev pub rdpcm_flag : Rdpcm → Bool
rdpcm_flag of_rdpcm.None = false
rdpcm_flag of_rdpcm.Horizontal = true
rdpcm_flag of_rdpcm.Vertical = true

abbrev pub rdpcm_dir : Rdpcm → Bool
rdpcm_dir of_rdpcm.None = false
rdpcm_dir of_rdpcm.Horizontal = false
rdpcm_dir of_rdpcm.Vertical = true

abbrev pub rdpcm_of : Bool → Bool → Rdpcm
rdpcm_of false dir = of_rdpcm.None
rdpcm_of true false = of_rdpcm.Horizontal
rdpcm_of true true = of_rdpcm.Vertical

-- ---- the last significant position (7.4.9.11, 9.3.4.2.3)
-- the least position of a group
unfoldable pub least_of : ℕ → ℕ
least_of g = get_or (0 ∷ 1 ∷ 2 ∷ 3 ∷ 4 ∷ 6 ∷ 8 ∷ 12 ∷ 16 ∷ 24 ∷ []) g 0

-- the bits that tell its positions apart
abbrev pub suffix_bits : ℕ → ℕ
suffix_bits g = (g - 2) / 2

-- the group of position n − 1: 3, 5, 7, 9
abbrev pub greatest_group : ℕ → ℕ
greatest_group log2 = 2 * log2 - 1

-- the prefix of one coordinate, wanted to be v, with contexts from number first on
unfoldable pub last_prefix : ℕ → Bool → ℕ → (Wanted → ℕ) → S ℕ
last_prefix first true log2 v =
    prefix_s (first + 3 * (log2 - 2) + (log2 - 1) / 4) ((log2 + 1) / 4) (greatest_group log2) 0 (λ g t. leb (least_of (suc g)) (v t))
last_prefix first false log2 v =
    prefix_s (first + 15) (log2 - 2) (greatest_group log2) 0 (λ g t. leb (least_of (suc g)) (v t))

-- both prefixes, x first: a spot of groups
unfoldable pub groups_s : Bool → ℕ → (Wanted → ℕ) → (Wanted → ℕ) → S Spot
groups_s luma log2 x y =
    last_prefix at_last_x luma log2 x >>= λ xg. last_prefix at_last_y luma log2 y >>= λ yg. done (spot xg yg)

-- the last place in scan order at which a level is wanted, of the first n places
unfoldable pub last_wanted : Params → List Spot → List Spot → Wanted → ℕ → Spot
last_wanted p outer inner t zero = spot 0 0
last_wanted p outer inner t (suc i) =
    let s = get_or outer (i / 16) (spot 0 0) in
    elim (is_sig (wanted_in p inner s) t (i % 16)) [ true ↦ spot_in inner s (i % 16) | false ↦ last_wanted p outer inner t i ]

-- ---- all of it
pub record Head : Type 0 where
  pub skip : Bool
  pub rdpcm : Rdpcm
  pub last_x : ℕ  -- LastSignificantCoeffX
  pub last_y : ℕ  -- LastSignificantCoeffY

-- the prefixes come before the suffixes, and scan 2 swaps the coordinates
unfoldable pub head_s : Params → List Spot → List Spot → S Head
unfolding last_wanted
head_s p outer inner =
    let swap = eqb p.scan 2 in
    let last : Wanted → Spot = λ t. last_wanted p outer inner t (area p) in
    let lx : Wanted → ℕ = λ t. cond swap (last t).y (last t).x in
    let ly : Wanted → ℕ = λ t. cond swap (last t).x (last t).y in
    flag_if (skip_coded p) (at_skip + in_chroma p.luma 1) (λ t. t.skip) >>= λ skip.
    flag_if (rdpcm_coded p skip) (at_rdpcm_flag + in_chroma p.luma 1) (λ t. rdpcm_flag t.rdpcm) >>= λ flag.
    flag_if flag (at_rdpcm_dir + in_chroma p.luma 1) (λ t. rdpcm_dir t.rdpcm) >>= λ dir.
    groups_s p.luma p.log2 lx ly >>= λ g.
    bits_s (suffix_bits g.x) 0 (λ t. lx t - least_of g.x) >>= λ xs.
    bits_s (suffix_bits g.y) 0 (λ t. ly t - least_of g.y) >>= λ ys.
    let x = least_of g.x + xs in
    let y = least_of g.y + ys in
    done (record { skip = skip; rdpcm = rdpcm_of flag dir; last_x = cond swap y x; last_y = cond swap x y })

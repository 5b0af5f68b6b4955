-- What a writer refuses of a block, in document 01's order: 9, 10, 8, 11.
use Rattle.std.specs.Prelude.{ℕ, zero, suc, ◌+◌, List, [], ◌∷◌, Bool, true, false, not, ◌&&◌, ◌||◌, cond, eqb, ℤ, nat_abs}
use Rattle.std.specs.Bool.{beq}
use Rattle.bins.specs.Readers.{odd}
unfoldable pub use Rattle.trees.specs.Levels.{all_zero, too_far}
use Rattle.hevc_residual.specs.declared.params.Params.{Params}
use Rattle.hevc_residual.specs.Scan.{Spot}
use Rattle.hevc_residual.specs.Wanted.{Wanted, negative, outer_of, inner_of, wanted_in, down_from, last_of, sig_places}
use Rattle.hevc_residual.specs.Head.{skip_coded, rdpcm_coded, rdpcm_flag}
use Rattle.hevc_residual.specs.Remainder.{log2_transform_range, in_range}
use Rattle.hevc_residual.specs.SubBlock.{sign_hidden}

-- 10: skip or RDPCM is set where it isn't coded
unfoldable pub not_coded : Params → Wanted → Bool
not_coded p w = (w.skip && not (skip_coded p)) || (rdpcm_flag w.rdpcm && not (rdpcm_coded p w.skip))

-- the sum of magnitudes at places
unfoldable pub sum_over : (ℕ → Wanted → ℤ) → Wanted → List ℕ → ℕ
sum_over lv w [] = 0
sum_over lv w (k ∷ ks) = nat_abs (lv k w) + sum_over lv w ks

-- 11: a hidden sign disagrees with its parity. lv says what is wanted in a sub-block, whose significant places are given
unfoldable pub disagrees : Params → Wanted → (ℕ → Wanted → ℤ) → List ℕ → Bool
unfolding sum_over last_of sign_hidden
disagrees p w lv [] = false
disagrees p w lv (k ∷ ks) =
    sign_hidden p w.skip w.rdpcm (k ∷ ks)
    && not (beq (negative (lv (last_of ks k) w)) (odd (sum_over lv w (k ∷ ks))))

-- in one of the sub-blocks
unfoldable pub any_disagrees : Params → Wanted → List Spot → List Spot → Bool
unfolding disagrees wanted_in down_from
any_disagrees p w inner [] = false
any_disagrees p w inner (s ∷ l) =
    disagrees p w (wanted_in p inner s) (sig_places (wanted_in p inner s) w) || any_disagrees p w inner l

-- 0 if nothing is refused
unfoldable pub write_refusal : Params → Wanted → ℕ
unfolding all_zero too_far not_coded any_disagrees
write_refusal p w =
    cond (all_zero w.levels) 9
    (cond (not_coded p w) 10
    (cond (too_far (log2_transform_range p) w.levels) 8
    (cond (any_disagrees p w (inner_of p) (outer_of p)) 11 0)))

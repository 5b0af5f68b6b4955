-- What the code's refusals say of the block wanted.
use Rattle.std.specs.Prelude.{ℕ, ◌-◌, ◌/◌, ◌%◌, ◌≡◌, Bool, not, List, ℤ, pos, negsuc, get_or}
use Rattle.std.specs.Bool.{beq}
use Rattle.bins.specs.Readers.{odd}
use Rattle.hevc_residual.specs.declared.params.Params.{Params}
use Rattle.hevc_residual.specs.Scan.{Spot}
use Rattle.hevc_residual.specs.Wanted.{Wanted, negative, last_of, inner_of, wanted_in, sig_places}
use Rattle.hevc_residual.specs.Refusal.{disagrees}
use Rattle.hevc_head_rules.specs.declared.head.Head.{Head}
use Rattle.hevc_places.specs.declared.places.Places.{Places}
use Rattle.hevc_places.specs.Packing.{unpack}
use Rattle.hevc_wanted.specs.Shown.{sum_below}

-- the flags of a head are those wanted
pub record Chosen (h : Head) (w : Wanted) : Type 0 where
  pub skip : w.skip ≡ h.skip
  pub rdpcm : w.rdpcm ≡ h.rdpcm

-- and the block's levels are those wanted
pub record Handed (h : Head) (block : List ℤ) (w : Wanted) : Type 0 where
  pub chosen : Chosen h w
  pub levels : w.levels ≡ block

-- the lowest of the places, of which there is one
abbrev pub lowest_of : Places → ℕ
lowest_of s = last_of (unpack (s.packed / 16) (s.count - 1)) (s.packed % 16)

-- the sign there is not the parity of the sum
abbrev pub sign_off : List ℤ → Places → Bool
sign_off levels s = not (beq (negative (get_or levels (lowest_of s) (pos 0))) (odd (sum_below levels 16)))

-- 11 in sub-block s of the block wanted
abbrev pub disagrees_in : Params → Wanted → Spot → Bool
disagrees_in p w s = disagrees p w (wanted_in p (inner_of p) s) (sig_places (wanted_in p (inner_of p) s) w)

-- how far a level reaches: it is in the range of T iff this is below 2 ^ T
abbrev pub reach_of : ℤ → ℕ
reach_of (pos n) = n
reach_of (negsuc n) = n

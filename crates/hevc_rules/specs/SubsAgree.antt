-- What settles a sub-block: its neighbours, its flag, the places met, ctxSet, the last one.
use Rattle.std.specs.Prelude.{ℕ, ◌+◌, ◌*◌, ◌/◌, ◌%◌, ◌^◌, ◌≤◌, ◌<◌, ◌≡◌, Bool, true, false, not, ◌&&◌, cond, List, [], ◌∷◌, get_or, ltb, eqb}
use Rattle.bins.specs.Engine.{bit_no}
use Rattle.bins.specs.Syn.{done, bin}
use Rattle.hevc_residual.specs.declared.params.Params.{Params}
use Rattle.hevc_residual.specs.Layout.{at_coded_sub_block, in_chroma}
use Rattle.hevc_residual.specs.Wanted.{Wanted, S, outer_of, inner_of}
use Rattle.hevc_residual.specs.Scan.{number_in}
use Rattle.hevc_head_rules.specs.declared.head.Head.{Head}
use Rattle.hevc_places.specs.declared.places.Places.{Places}
use Rattle.hevc_places.specs.Packing.{Packs, unpacked}
use Rattle.hevc_rules.specs.declared.coeffs.Carry.{Carry}

-- coded_sub_block_flag at (xS, yS), w sub-blocks in a row; none outside the block
abbrev pub coded_at : List Bool → ℕ → ℕ → ℕ → Bool
coded_at l w xS yS = ltb xS w && (ltb yS w && get_or l (yS * w + xS) false)

-- the neighbours of (xS, yS) as a number: right 1, below 2
abbrev pub near : List Bool → ℕ → ℕ → ℕ → ℕ
near l w xS yS = bit_no (coded_at l w (xS + 1) yS) + 2 * bit_no (coded_at l w xS (yS + 1))

-- the context of coded_sub_block_flag, by that number
abbrev pub flag_number : Bool → ℕ → ℕ
flag_number luma neighbours = at_coded_sub_block + in_chroma luma 2 + bit_no (not (eqb neighbours 0))

-- the flag where it is coded, else 1
abbrev pub flag_or : Bool → ℕ → (Wanted → Bool) → S Bool
flag_or middle n w = elim middle [ true ↦ bin n w done | false ↦ done true ]

-- the places met before the first flag is read
pub record Met (i last lastin : ℕ) (s : Places) : Type 0 where
  pub packs : Packs s
  pub places : unpacked s ≡ cond (eqb i last) (lastin ∷ []) []
  pub few : s.count ≤ 1
  pub none : eqb i last ≡ false → s.count ≡ 0

-- a last position within an accepted block
pub record Last (p : Params) (h : Head) : Type 0 where
  pub least : 2 ≤ p.log2
  pub most : p.log2 ≤ 5
  pub scan : p.scan ≤ 2
  pub depth : p.depth ≤ 16
  pub column : h.x < 2 ^ p.log2
  pub row : h.y < 2 ^ p.log2

-- no sub-block read yet
abbrev pub begun : Carry
begun = record { carry = 1; first = true; column = 0 }

abbrev pub last_of : Params → Head → ℕ
last_of p h = number_in (outer_of p) (h.x / 4) (h.y / 4)

abbrev pub last_in_of : Params → Head → ℕ
last_in_of p h = number_in (inner_of p) (h.x % 4) (h.y % 4)

-- The context of sig_coeff_flag at a place, and how the code holds those of a sub-block.
use Rattle.std.specs.Prelude.{ℕ, ◌+◌, ◌<◌, ◌≡◌, Bool, true, false, cond, eqb, leb}
use Rattle.bins.specs.Readers.{odd}
use Rattle.hevc_residual.specs.declared.params.Params.{Params}
use Rattle.hevc_residual.specs.Layout.{at_sig_coeff, in_chroma}
use Rattle.hevc_residual.specs.Scan.{spot, sig_ctx}
use Rattle.hevc_residual.specs.Wanted.{inner_of, spot_in}
use Rattle.hevc_scans.specs.SigWords.{four_at}
use Rattle.hevc_places.specs.declared.places.SigNumbers.{SigNumbers}

-- the context's number at place k, by the number of neighbours: right 1, below 2; single: the skip context
unfoldable pub sig_number : Params → Bool → ℕ → ℕ → ℕ → ℕ → ℕ
unfolding spot_in
sig_number p single neighbours xs ys k =
    let c = spot_in (inner_of p) (spot xs ys) k in
    at_sig_coeff + elim single [
      | true ↦ 42 + in_chroma p.luma 1
      | false ↦ sig_ctx p.log2 p.luma p.scan (odd neighbours) (leb 2 neighbours) c.x c.y
    ]

-- the number that is held for place k
abbrev pub number_at : SigNumbers → ℕ → ℕ
number_at s k = cond (eqb k 0) s.first (s.base + four_at s.word k)

-- s holds the numbers of a sub-block; place 15 of a 4x4 block is never asked for
pub record Numbers (p : Params) (single : Bool) (neighbours xs ys : ℕ) (s : SigNumbers) : Type 0 where
  pub held : (k : ℕ) → k < 16 → (p.log2 ≡ 2 → k < 15) → number_at s k ≡ sig_number p single neighbours xs ys k

-- The residual syntax (H.265 7.3.8.11) as a tree: one definition for every source of bins.
use Prim.Native.Nat.{ℕ, zero, suc, ◌+◌, ◌-◌, ◌*◌, ◌/◌, ◌%◌, ◌^◌, max}
use mathlib.Core.List.{List, [], ◌∷◌}
use Rattle.std.proofs.Math.Bool.{Bool, true, false, not}
use Rattle.std.specs.Prelude.{◌&&◌, ◌||◌, cond, set, replicate, eqb, ℤ, pos, nat_abs}
use Rattle.std.proofs.Math.ListN.{get_or}
use Rattle.std.proofs.Math.Dec.{ltb}
use Rattle.bins.specs.Engine.{bit_no}
use Rattle.bins.specs.Syn.{done, bin, ◌>>=◌}
unfoldable pub use Rattle.trees.specs.Levels.{greatest_of}
use Rattle.hevc_residual.specs.declared.params.Params.{Params}
use Rattle.hevc_residual.specs.declared.params.Rdpcm.{Rdpcm}
use Rattle.hevc_residual.specs.Layout.{at_sig_coeff, at_coded_sub_block, in_chroma}
use Rattle.hevc_residual.specs.Scan.{Spot, spot, number_in, sig_ctx}
use Rattle.hevc_residual.specs.Wanted.{S, area, width, outer_of, inner_of, spot_in, wanted_in, none, sig_places}
use Rattle.hevc_residual.specs.Head.{Head, skip_or_bypass, head_s}
use Rattle.hevc_residual.specs.SubBlock.{Acc, places_s, coeffs_s}
use Rattle.hevc_residual.specs.Extent.{column_extent_of, row_extent_of}

-- ---- coded_sub_block_flag of the sub-blocks met so far: no neighbour outside the block is coded
unfoldable pub is_coded : Params → Acc → ℕ → ℕ → Bool
is_coded p a xS yS = ltb xS (width p) && (ltb yS (width p) && get_or a.coded_sub_block (yS * width p + xS) false)

-- with sub-block (xS, yS) marked coded
unfoldable pub marked : Params → Acc → ℕ → ℕ → Acc
marked p a xS yS =
    record {
      coded_sub_block = set a.coded_sub_block (yS * width p + xS) true;
      greater1_ctx = a.greater1_ctx;
      first = a.first;
      levels = a.levels;
      column = a.column;
      stats = a.stats;
    }

-- ctxSet of sub-block number i (9.3.4.2.6): one more if the last sub-block with levels had a greater1
abbrev pub ctx_set_by : Bool → ℕ → Bool → ℕ → ℕ
ctx_set_by luma i first greater1_ctx = cond (eqb i 0 || not luma) 0 2 + bit_no (not first && eqb greater1_ctx 0)

abbrev pub ctx_set_of : Params → ℕ → Acc → ℕ
ctx_set_of p i a = ctx_set_by p.luma i a.first a.greater1_ctx

-- ---- sub-blocks
module _ (p : Params) (h : Head) (outer inner : List Spot) where
  -- the context of sig_coeff_flag at place k of sub-block s (9.3.4.2.5)
  unfoldable pub sig_at : Spot → Bool → Bool → ℕ → ℕ
  unfolding spot_in
  sig_at s right below k =
      let c = spot_in inner s k in
      at_sig_coeff + elim (p.skip_context && skip_or_bypass p h.skip) [
        | true ↦ 42 + in_chroma p.luma 1
        | false ↦ sig_ctx p.log2 p.luma p.scan right below c.x c.y
      ]

  -- the levels of sub-block s, number i, at its significant places; there may be none in number 0
  unfoldable pub filled_s : ℕ → Spot → Acc → List ℕ → S Acc
  unfolding coeffs_s wanted_in spot_in
  filled_s i s a [] = done a
  filled_s i s a (k ∷ ks) = coeffs_s p h (wanted_in p inner s) (spot_in inner s) (ctx_set_of p i a) k ks a

  -- sub-block number i of those up to number last, in which the last significant place is lastIn. The flag is coded strictly
  -- between first and last, with its context by the neighbours (9.3.4.2.4); elsewhere it is 1
  unfoldable pub sub_block_s : ℕ → ℕ → ℕ → Acc → S Acc
  unfolding wanted_in is_coded marked sig_at filled_s places_s
  sub_block_s last lastIn i a =
      let s = get_or outer i (spot 0 0) in
      let right = is_coded p a (s.x + 1) s.y in
      let below = is_coded p a s.x (s.y + 1) in
      let middle = ltb 0 i && ltb i last in
      let flag : S Bool =
      elim middle [
        | true ↦ bin (at_coded_sub_block + in_chroma p.luma 2 + bit_no (right || below)) (λ t. not (none (sig_places (wanted_in p inner s) t))) done
        | false ↦ done true
      ] in
      let places : S (List ℕ) =
      elim (eqb i last) [
        | true ↦ places_s (wanted_in p inner s) (sig_at s right below) false lastIn (lastIn ∷ [])
        | false ↦ places_s (wanted_in p inner s) (sig_at s right below) middle 16 []
      ] in
      flag >>= λ coded.
      elim coded [ false ↦ done a | true ↦ places >>= λ ks. filled_s i s (marked p a s.x s.y) ks ]

  -- those below number n, highest first
  unfoldable pub sub_blocks_s : ℕ → ℕ → ℕ → Acc → S Acc
  unfolding sub_block_s
  sub_blocks_s last lastIn zero a = done a
  sub_blocks_s last lastIn (suc i) a = sub_block_s last lastIn i a >>= λ a'. sub_blocks_s last lastIn i a'

-- ---- the whole block
pub record Block : Type 0 where
  pub skip : Bool
  pub rdpcm : Rdpcm
  pub column : ℕ  -- column extent
  pub row : ℕ  -- row extent
  pub greatest : ℕ  -- greatest magnitude
  pub levels : List ℤ
  pub stats : List ℕ

-- what stands behind the head, from the last sub-block down
unfoldable pub body_s : Params → List ℕ → Head → S Block
body_s p stats h =
    let last = number_in (outer_of p) (h.last_x / 4) (h.last_y / 4) in
    let lastIn = number_in (inner_of p) (h.last_x % 4) (h.last_y % 4) in
    let start : Acc = record {
      coded_sub_block = replicate (4 ^ (p.log2 - 2)) false;
      greater1_ctx = 1;
      first = true;
      levels = replicate (area p) (pos 0);
      column = 0;
      stats = stats;
    } in
    sub_blocks_s p h (outer_of p) (inner_of p) last lastIn (suc last) start >>= λ a.
    done (record {
      skip = h.skip;
      rdpcm = h.rdpcm;
      column = column_extent_of p a.levels;
      row = row_extent_of p a.levels;
      greatest = greatest_of a.levels;
      levels = a.levels;
      stats = a.stats;
    })

unfoldable pub residual : Params → List ℕ → S Block
unfolding body_s sub_blocks_s greatest_of column_extent_of row_extent_of
residual p stats = head_s p (outer_of p) (inner_of p) >>= λ h. body_s p stats h

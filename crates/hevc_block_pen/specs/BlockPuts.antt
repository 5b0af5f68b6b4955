-- The whole block as its code puts it: the head, then the sub-blocks. Assumes nothing.
use Rattle.std.specs.Prelude.{ℕ, suc, ◌-◌, ◌^◌, ◌≡◌, Bool, true, false, not, ◌&&◌, ℤ, pos}
use Rattle.std.proofs.Math.Path.{refl, subst}
use Rattle.std.proofs.Common.{arith}
use mathlib.Core.List.{List}
use Rattle.std.proofs.Math.ListN.{replicate}
use Rattle.bins.specs.Syn.{done, ◌>>=◌}
use Rattle.trees.specs.LevelLaws.{near_all}
use Rattle.trees.specs.ReaderLaws.{or_false}
use Rattle.hevc_residual.specs.declared.params.Params.{Params}
use Rattle.hevc_residual.specs.declared.params.Rdpcm.{Rdpcm}
use Rattle.hevc_residual.specs.Wanted.{Wanted, S, area, outer_of, inner_of}
use Rattle.hevc_residual.specs.Head.{head_s, skip_coded, rdpcm_coded, rdpcm_flag}
use Rattle.hevc_residual.specs.Remainder.{log2_transform_range}
use Rattle.hevc_residual.specs.Refusal.{not_coded, write_refusal}
use Rattle.hevc_residual.specs.SubBlock.{Acc}
use Rattle.hevc_residual.specs.Residual.{Block, sub_blocks_s, body_s, residual, greatest_of}
use Rattle.hevc_residual.specs.Extent.{column_extent_of, row_extent_of}
use Rattle.hevc_head_rules.specs.declared.head.Head.{Head}
use Rattle.hevc_head_rules.specs.HeadOf.{head_of}
use Rattle.hevc_rules.specs.SubsAgree.{begun, last_of, last_in_of}
use Rattle.pen.specs.Sheet.{Sheet, Wrote}
use Rattle.pen.specs.SheetLaws.{wrote_then, wrote_call}
use Rattle.hevc_pen.specs.HeadLaws.{Codable}
use Rattle.hevc_wanted.specs.WritableLaws.{writable}
use Rattle.hevc_levels_pen.specs.LevelsPuts.{AllInRange}
use Rattle.hevc_block_pen.specs.SubsPuts.{acc_at, GoesSubs}

abbrev pub wanted_of : Bool → Rdpcm → List ℤ → Wanted
wanted_of skip rdpcm levels = record { skip = skip; rdpcm = rdpcm; levels = levels }

-- ---- of a block of which nothing is refused, every level is in range, and what is set is coded
pub all_in_range : (p : Params) (skip : Bool) (rdpcm : Rdpcm) (levels : List ℤ) → write_refusal p (wanted_of skip rdpcm levels) ≡ 0 → AllInRange p levels
all_in_range p skip rdpcm levels q = near_all (log2_transform_range p) levels (writable p (wanted_of skip rdpcm levels) q).near

coded_so : (set coded : Bool) → (set && not coded) ≡ false → (coded && set) ≡ set
coded_so true true q = refl
coded_so true false q = let z : ◌≡◌ {A = ℕ} 0 1 = cc in absurd (omega arith)
coded_so false true q = refl
coded_so false false q = refl

pub codable : (p : Params) (skip : Bool) (rdpcm : Rdpcm) (levels : List ℤ) → write_refusal p (wanted_of skip rdpcm levels) ≡ 0 → Codable p skip rdpcm
unfolding not_coded
codable p skip rdpcm levels q =
    let o = or_false (skip && not (skip_coded p)) (rdpcm_flag rdpcm && not (rdpcm_coded p skip)) (writable p (wanted_of skip rdpcm levels) q).coded in
    record { of_skip = coded_so skip (skip_coded p) o.0; of_rdpcm = coded_so (rdpcm_flag rdpcm) (rdpcm_coded p skip) o.1 }

-- ---- the block is written to its end, with these statistics behind it
pub record Spells (p : Params) (w : Wanted) (stats stats' : List ℕ) (s s' : Sheet) : Type 0 where
  pub answer : Block
  pub stats_are : answer.stats ≡ stats'
  pub wrote : Wrote (residual p stats) (done answer) w s s'

module _ (p : Params) (skip : Bool) (rdpcm : Rdpcm) (levels : List ℤ) (stats stats' : List ℕ) (h : Head) (s₀ s₁ s₂ : Sheet) (coded : List Bool) where
  pub block_put : coded ≡ replicate (4 ^ (p.log2 - 2)) false → Wrote (head_s p (outer_of p) (inner_of p)) (done (head_of h)) (wanted_of skip rdpcm levels) s₀ s₁
      → GoesSubs p h levels coded stats stats' s₁ s₂ → Spells p (wanted_of skip rdpcm levels) stats stats' s₀ s₂
  unfolding residual body_s
  block_put ec f g =
      let w = wanted_of skip rdpcm levels in
      let hh = head_of h in
      let zeros = replicate (area p) (pos 0) in
      let subs = sub_blocks_s p hh (outer_of p) (inner_of p) (last_of p h) (last_in_of p h) (suc (last_of p h)) (acc_at begun 0 (replicate (4 ^ (p.log2 - 2)) false) zeros stats) in
      let last : Acc → S Block = λ a. done (record {
        skip = hh.skip;
        rdpcm = hh.rdpcm;
        column = column_extent_of p a.levels;
        row = row_extent_of p a.levels;
        greatest = greatest_of a.levels;
        levels = a.levels;
        stats = a.stats;
      }) in
      let k = g.goes w refl zeros in
      let x : Wrote subs (done k.0) w s₁ s₂ =
      subst (λ (z : List Bool). Wrote (sub_blocks_s p hh (outer_of p) (inner_of p) (last_of p h) (last_in_of p h) (suc (last_of p h)) (acc_at begun 0 z zeros stats)) (done k.0) w s₁ s₂) ec k.2 in
      let y : Wrote (residual p stats) (subs >>= last) w s₀ s₁ = wrote_then w (head_s p (outer_of p) (inner_of p)) (λ h. body_s p stats h) hh s₀ s₁ f in
      let z = wrote_call w (residual p stats) subs last k.0 s₀ s₁ s₂ y x in
      record { answer = _; stats_are = k.1; wrote = z }

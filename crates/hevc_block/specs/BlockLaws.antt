-- The whole block as its code goes from call to call; the last position lies within the block. Assumes nothing.
use Rattle.std.specs.Prelude.{ℕ, suc, ◌-◌, ◌^◌, ◌≡◌, Bool, false, List, ℤ, pos, replicate, Result, Ok, Err}
use Rattle.std.proofs.Common.{sym, ap, ap₂, ◌∙◌}
use Rattle.std.proofs.Math.Path.{subst}
use Rattle.bins.specs.declared.state.Refusal.{Refusal}
use Rattle.bins.specs.declared.state.Interval.{Interval}
use Rattle.bins.specs.Syn.{done, ◌>>=◌, Out}
use Rattle.bins.specs.Sources.{cursor, by_code}
use Rattle.bins.specs.Laws.{RefusedBy, bind_ok, bind_no}
use Rattle.hevc_residual.specs.declared.params.Params.{Params}
use Rattle.hevc_residual.specs.Limits.{Accepted, Statistics}
use Rattle.hevc_residual.specs.Wanted.{S, area, outer_of, inner_of}
use Rattle.hevc_residual.specs.Head.{head_s}
use Rattle.hevc_residual.specs.SubBlock.{Acc}
use Rattle.hevc_residual.specs.Extent.{column_extent_of, row_extent_of}
use Rattle.hevc_residual.specs.Residual.{Block, body_s, residual, sub_blocks_s, greatest_of}
use Rattle.hevc_head_rules.specs.declared.head.Head.{Head}
use Rattle.hevc_head.specs.declared.head.Headed.{Headed}
use Rattle.hevc_head_rules.specs.HeadOf.{head_of}
use Rattle.hevc_head.specs.HeadAgree.{SaysHead}
use Rattle.trees.specs.Reached.{each_run}
use Rattle.hevc_bounds.specs.Pieces.{head_each}
use Rattle.hevc_bounds.specs.ResidualBounds.{last_few, last_in_few}
use Rattle.hevc_elements.specs.Agree.{Reads, from, reads_on}
use Rattle.hevc_elements.specs.ShapeLaws.{run_done}
use Rattle.hevc_rules.specs.declared.coeffs.Carry.{Carry}
use Rattle.hevc_stored.specs.declared.stored.Stored.{Stored}
use Rattle.hevc_subblock.specs.declared.coeffs.Carried.{Carried}
use Rattle.hevc_rules.specs.CoeffsAgree.{acc_of}
use Rattle.hevc_residual.specs.declared.answers.Found.{Found}
use Rattle.hevc_rules.specs.SubsAgree.{Last, begun, last_of, last_in_of}
use Rattle.hevc_sub_blocks.specs.SubsAgree.{SaysSubs}
use Rattle.hevc_extents.specs.ExtentLaws.{column_gathered}
use Rattle.hevc_block.specs.BlockAgree.{block_of}

-- ---- behind the head
module _ (p : Params) (a : Accepted p) (list : Bool) (l : List ℕ) (x : Interval) (cs : List ℕ) (stats : List ℕ) (r : Result Headed Refusal) (ds : List ℕ)
    (e : SaysHead r ds (from list l (head_s p (outer_of p) (inner_of p)) x cs)) where
  pub head_refused : (n : Refusal) → r ≡ Err n → RefusedBy n (from list l (residual p stats) x cs)
  unfolding residual
  head_refused n q =
      let f : RefusedBy n (from list l (head_s p (outer_of p) (inner_of p)) x cs) = subst (λ (z : Result Headed Refusal). SaysHead z ds (from list l (head_s p (outer_of p) (inner_of p)) x cs)) q e in
      bind_no (by_code list l) (head_s p (outer_of p) (inner_of p)) (λ h. body_s p stats h) (cursor x cs) n f

  module _ (h : Head) (y : Interval) (q : r ≡ Ok (record { head = h; next = y })) where
    got : from list l (head_s p (outer_of p) (inner_of p)) x cs ≡ Out.ok (head_of h) (cursor y ds)
    got = subst (λ (z : Result Headed Refusal). SaysHead z ds (from list l (head_s p (outer_of p) (inner_of p)) x cs)) q e

    pub head_reads : Reads list l x cs → Reads list l y ds
    head_reads g = reads_on list l (head_s p (outer_of p) (inner_of p)) x cs (head_of h) y ds got g

    pub head_last : Last p h
    head_last =
        let w = (each_run (by_code list l) (head_each p a 0 {n = 0} (outer_of p) (inner_of p)) (cursor x cs) (head_of h) (cursor y ds) got).1.0 in
        record { least = a.least; most = a.most; scan = a.scan; depth = a.depth; column = w.in_x; row = w.in_y }

    abbrev coded₀ : List Bool
    coded₀ = replicate (4 ^ (p.log2 - 2)) false

    abbrev levels₀ : List ℤ
    levels₀ = replicate (area p) (pos 0)

    abbrev finish : Acc → S Block
    finish = λ a. done (record {
      skip = h.skip;
      rdpcm = h.rdpcm;
      column = column_extent_of p a.levels;
      row = row_extent_of p a.levels;
      greatest = greatest_of a.levels;
      levels = a.levels;
      stats = a.stats;
    })

    abbrev subs : S Acc
    subs = sub_blocks_s p (head_of h) (outer_of p) (inner_of p) (last_of p h) (last_in_of p h) (suc (last_of p h)) (acc_of begun coded₀ levels₀ stats)

    body_left : from list l (residual p stats) x cs ≡ from list l (subs >>= finish) y ds
    unfolding residual body_s
    body_left = bind_ok (by_code list l) (head_s p (outer_of p) (inner_of p)) (λ h. body_s p stats h) (cursor x cs) (head_of h) (cursor y ds) got

    -- s is what the sub-blocks answered
    module _ (coded : List Bool) (levels : List ℤ) (k : coded ≡ coded₀) (m : levels ≡ levels₀) (s : Result Carried Refusal) (es : List ℕ) (coded' : List Bool) (levels' : List ℤ) (stats' : List ℕ)
        (d : SaysSubs p h list l y ds coded levels stats s es coded' levels' stats') where
      here : SaysSubs p h list l y ds coded₀ levels₀ stats s es coded' levels' stats'
      here =
          subst (λ (z : List Bool). SaysSubs p h list l y ds z levels₀ stats s es coded' levels' stats') k
          (subst (λ (z : List ℤ). SaysSubs p h list l y ds coded z stats s es coded' levels' stats') m d)

      pub subs_refused : (n : Refusal) → s ≡ Err n → RefusedBy n (from list l (residual p stats) x cs)
      subs_refused n u =
          let f : RefusedBy n (from list l subs y ds) = subst (λ (z : Result Carried Refusal). SaysSubs p h list l y ds coded₀ levels₀ stats z es coded' levels' stats') u here in
          let b = bind_no (by_code list l) subs finish (cursor y ds) n f in
          (b.0, body_left ∙ b.1)

      pub subs_got : Statistics stats → (c : Carry) (kept : Stored) (z : Interval) → s ≡ Ok (record { carry = c; stored = kept; next = z }) → (f : Found) (n g : ℕ) → n ≡ row_extent_of p levels' → g ≡ greatest_of levels'
          → f ≡ record { skip = h.skip; rdpcm = h.rdpcm; column = c.column; row = n; greatest = g }
          → from list l (residual p stats) x cs ≡ Out.ok (block_of f levels' stats') (cursor z es)
      subs_got st c kept z u f n g r w v =
          let o = subst (λ (t : Result Carried Refusal). SaysSubs p h list l y ds coded₀ levels₀ stats t es coded' levels' stats') u here in
          let columns : c.column ≡ column_extent_of p levels' =
          column_gathered p a (by_code list l) (head_of h) (last_of p h) (last_in_of p h) (last_few p a h.x h.y head_last.column head_last.row)
          (last_in_few p a h.x h.y head_last.column head_last.row) coded₀ stats st (cursor y ds) (acc_of c coded' levels' stats') (cursor z es) o.1 in
          let found : ℕ → ℕ → ℕ → Found = λ k n g. record { skip = h.skip; rdpcm = h.rdpcm; column = k; row = n; greatest = g } in
          let told = found (column_extent_of p levels') (row_extent_of p levels') (greatest_of levels') in
          let b : block_of told levels' stats' ≡ block_of f levels' stats' =
          ap (λ (t : Found). block_of t levels' stats') (sym (v ∙ ap (λ k. found k n g) columns ∙ ap₂ (found (column_extent_of p levels')) r w)) in
          body_left ∙ bind_ok (by_code list l) subs finish (cursor y ds) (acc_of c coded' levels' stats') (cursor z es) o.1
          ∙ run_done list l (block_of told levels' stats') z es
          ∙ ap (λ (t : Block). Out.ok t (cursor z es)) b

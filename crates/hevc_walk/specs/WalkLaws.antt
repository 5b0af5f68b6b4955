-- The loop over sub-blocks, from the last one down: what is left to run. Assumes nothing.
use Rattle.std.specs.Prelude.{ℕ, suc, ◌*◌, ◌≤◌, ◌≡◌, refl, Bool, List, ℤ, length, Result, Ok, Err}
use Rattle.std.proofs.Common.{subst, ◌∙◌, arith}
use Rattle.std.proofs.Math.Path.{ap}
use Rattle.bins.specs.declared.state.Refusal.{Refusal}
use Rattle.bins.specs.declared.state.Interval.{Interval}
use Rattle.bins.specs.Syn.{◌>>=◌}
use Rattle.bins.specs.Sources.{cursor, by_code}
use Rattle.bins.specs.Laws.{RefusedBy, bind_ok, bind_no}
use Rattle.hevc_residual.specs.declared.params.Params.{Params}
use Rattle.hevc_residual.specs.Wanted.{S, area, width, outer_of, inner_of}
use Rattle.hevc_residual.specs.SubBlock.{Acc}
use Rattle.hevc_residual.specs.Residual.{sub_block_s, sub_blocks_s}
use Rattle.hevc_head_rules.specs.declared.head.Head.{Head}
use Rattle.hevc_head_rules.specs.HeadOf.{head_of}
use Rattle.hevc_elements.specs.Agree.{Reads, from, reads_on}
use Rattle.hevc_elements.specs.ShapeLaws.{run_done}
use Rattle.hevc_rules.specs.declared.coeffs.Carry.{Carry}
use Rattle.hevc_stored.specs.declared.stored.Stored.{Stored}
use Rattle.hevc_subblock.specs.declared.coeffs.Carried.{Carried}
use Rattle.hevc_residual.specs.Limits.{Statistics}
use Rattle.hevc_rules.specs.CoeffsAgree.{Carries, acc_of}
use Rattle.hevc_rules.specs.SubsAgree.{begun, last_of, last_in_of}
use Rattle.hevc_sub_blocks.specs.SubsAgree.{SaysSub, SaysSubs}

-- ---- the loop, with n sub-blocks left
module _ (p : Params) (h : Head) (list : Bool) (l : List ℕ) (x : Interval) (cs : List ℕ) (coded₀ : List Bool) (levels₀ : List ℤ) (stats₀ : List ℕ) where
  abbrev left : ℕ → Carry → List Bool → List ℤ → List ℕ → S Acc
  left n c coded levels stats =
      sub_blocks_s p (head_of h) (outer_of p) (inner_of p) (last_of p h) (last_in_of p h) n (acc_of c coded levels stats)

  pub record Walking (n : ℕ) (c : Carry) (y : Interval) (ds : List ℕ) (coded : List Bool) (levels : List ℤ) (stats : List ℕ) : Type 0 where
    pub few : n ≤ suc (last_of p h)
    pub reads : Reads list l y ds
    pub carries : Carries c
    pub flags : length coded ≡ width p * width p
    pub places : length levels ≡ area p
    pub statistics : Statistics stats
    pub goes : from list l (left (suc (last_of p h)) begun coded₀ levels₀ stats₀) x cs ≡ from list l (left n c coded levels stats) y ds

  pub walk_begins : Reads list l x cs → length coded₀ ≡ width p * width p → length levels₀ ≡ area p → Statistics stats₀
      → Walking (suc (last_of p h)) begun x cs coded₀ levels₀ stats₀
  walk_begins r f m s =
      record { few = omega arith; reads = r; carries = record { carry = omega arith; column = omega arith }; flags = f; places = m; statistics = s; goes = refl }

  module _ (n : ℕ) (c : Carry) (y : Interval) (ds : List ℕ) (coded : List Bool) (levels : List ℤ) (stats : List ℕ) (w : Walking n c y ds coded levels stats) where
    pub walk_ends : n ≡ 0 → (k : Stored) → SaysSubs p h list l x cs coded₀ levels₀ stats₀ (Ok (record { carry = c; stored = k; next = y })) ds coded levels stats
    unfolding sub_blocks_s
    walk_ends q k = (w.carries, w.goes ∙ ap (λ k. from list l (left k c coded levels stats) y ds) q ∙ run_done list l (acc_of c coded levels stats) y ds)

    next_left : (i : ℕ) → n ≡ suc i
        → from list l (left (suc (last_of p h)) begun coded₀ levels₀ stats₀) x cs
        ≡ from list l (sub_block_s p (head_of h) (outer_of p) (inner_of p) (last_of p h) (last_in_of p h) i (acc_of c coded levels stats)
        >>= λ a. sub_blocks_s p (head_of h) (outer_of p) (inner_of p) (last_of p h) (last_in_of p h) i a) y ds
    unfolding sub_blocks_s
    next_left i q = w.goes ∙ ap (λ k. from list l (left k c coded levels stats) y ds) q

    -- r is what sub-block number i answered
    module _ (i : ℕ) (q : n ≡ suc i) (r : Result Carried Refusal) (es : List ℕ) (coded' : List Bool) (levels' : List ℤ) (stats' : List ℕ)
        (e : SaysSub p h list l (last_of p h) (last_in_of p h) i c y ds coded levels stats r es coded' levels' stats') where
      abbrev sub : S Acc
      sub = sub_block_s p (head_of h) (outer_of p) (inner_of p) (last_of p h) (last_in_of p h) i (acc_of c coded levels stats)

      abbrev on : Acc → S Acc
      on = λ a. sub_blocks_s p (head_of h) (outer_of p) (inner_of p) (last_of p h) (last_in_of p h) i a

      pub walk_refused : (k : Refusal) → r ≡ Err k → SaysSubs p h list l x cs coded₀ levels₀ stats₀ (Err k) es coded' levels' stats'
      walk_refused k u =
          let f : RefusedBy k (from list l sub y ds) = subst (λ (z : Result Carried Refusal). SaysSub p h list l (last_of p h) (last_in_of p h) i c y ds coded levels stats z es coded' levels' stats') u e in
          let b = bind_no (by_code list l) sub on (cursor y ds) k f in
          (b.0, next_left i q ∙ b.1)

      pub walk_on : (v : Carried) → r ≡ Ok v → length coded' ≡ width p * width p → length levels' ≡ area p → Statistics stats'
          → Walking i v.carry v.next es coded' levels' stats'
      walk_on v u f m s =
          let g = subst (λ (o : Result Carried Refusal). SaysSub p h list l (last_of p h) (last_in_of p h) i c y ds coded levels stats o es coded' levels' stats') u e in
          record {
            few = omega (arith, w.few);
            reads = reads_on list l sub y ds (acc_of v.carry coded' levels' stats') v.next es g.1 w.reads;
            carries = g.0;
            flags = f;
            places = m;
            statistics = s;
            goes = next_left i q ∙ bind_ok (by_code list l) sub on (cursor y ds) (acc_of v.carry coded' levels' stats') (cursor v.next es) g.1;
          }

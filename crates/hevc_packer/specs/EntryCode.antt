-- The entry points' code: each way out is what the definitions say. Assumes nothing.
use Rattle.std.specs.Prelude.{ℕ, ◌+◌, ◌*◌, ◌≤◌, ◌≡◌, List, [], ◌∷◌, length, ℤ, Result, Ok, Err}
use Rattle.std.proofs.Math.Path.{refl, sym, ap}
use Rattle.std.proofs.Common.{◌∙◌, arith}
use Rattle.bins.specs.Syn.{Out, run, by_list}
use Rattle.bins.specs.CodeLaws.{Packed}
use Rattle.cabac.specs.Numbers.{Answer, accepted, refused, ◌or_else◌}
use Rattle.cabac.specs.NumberLaws.{or_else_first, or_else_rest, or_else_zero}
use Rattle.hevc_residual.specs.declared.params.Params.{Params}
use Rattle.hevc_residual.specs.Residual.{Block, residual}
use Rattle.hevc_residual.specs.Numbers.{parameter_refusal, contexts_refusal, statistics_refusal}
use Rattle.hevc_residual.specs.Entries.{BinsRead, found_of, read_from_list, read_bins_by, read_bins}
use Rattle.hevc_residual.specs.declared.answers.Found as found
use Rattle.hevc_residual.specs.Answers.{bins_read}
use Rattle.hevc_checks.specs.ChecksAgree.{above_refusal}
use Rattle.hevc_checks.specs.ChecksLaws.{above_contexts, above_statistics, contexts_packed}
use Rattle.hevc_bounds.specs.Pieces.{bins_most}
use Rattle.hevc_cross.specs.Scale.{scale}
use Rattle.hevc_cross.specs.Entries as cross
use Rattle.hevc_cross.specs.EntryLaws.{reads_whole, reads_passed}
use Rattle.hevc_scale.specs.EntriesAgree as scales
use Rattle.packing.specs.Packs.{entries_most}
use Rattle.packing.specs.Entries.{BinsPacked, not_packed, pack_into, pack_list}
use Rattle.packing.proofs.EntriesLaws.{tree_checked, tree_read, list_whole, list_left, list_no_lem}
use Rattle.packer.specs.IntoCode.{packing_says}
use Rattle.hevc_packer.specs.Entries.{places, pack_checks, pack_bins, scale_checks, pack_scale}
use Rattle.hevc_packer.specs.ReadAgain.{Passed, passed, list_few, scale_few, component_few}

never : {A X : Type 0} (m : ℕ) (a : A) → refused m ≡ accepted a → X
never m a q = let z : ◌≡◌ {A = ℕ} 0 1 = cc in absurd (omega arith)

-- ---- the checks' ways out
module _ (contexts stats : List ℕ) (p : Params) where
  abbrev rest : ℕ
  rest = contexts_refusal contexts or_else statistics_refusal stats

  pub checks_first : (n : ℕ) → n ≡ parameter_refusal p places → (n ≡ 0 → ⊥) → n ≡ pack_checks contexts stats p
  checks_first n q h = or_else_first n (parameter_refusal p places) rest q h

  pub checks_second : 0 ≡ parameter_refusal p places → (n : ℕ) → n ≡ above_refusal 127 contexts → (n ≡ 0 → ⊥) → n ≡ pack_checks contexts stats p
  checks_second z n q h = or_else_rest n (parameter_refusal p places) rest z (or_else_first n (contexts_refusal contexts) (statistics_refusal stats) (q ∙ above_contexts contexts) h)

  pub checks_third : 0 ≡ parameter_refusal p places → 0 ≡ above_refusal 127 contexts → (n : ℕ) → n ≡ above_refusal 84 stats → n ≡ pack_checks contexts stats p
  checks_third z y n q =
      or_else_rest n (parameter_refusal p places) rest z
      (or_else_rest n (contexts_refusal contexts) (statistics_refusal stats) (y ∙ above_contexts contexts) (q ∙ above_statistics stats))

-- ---- the bin reader's answers
module _ (p : Params) (stats : List ℕ) (b : Block) where
  read_whole : (read_from_list p stats places (Out.ok b [])).answer ≡ accepted (found_of b)
  unfolding read_from_list
  read_whole = refl

  read_left : (x : ℕ) (l : List ℕ) → (read_from_list p stats places (Out.ok b (x ∷ l))).answer ≡ refused 13
  unfolding read_from_list
  read_left x l = refl

read_no : (p : Params) (stats : List ℕ) (n : ℕ) (l : List ℕ) → (read_from_list p stats places (Out.no n l)).answer ≡ refused n
unfolding read_from_list
read_no p stats n l = refl

-- ---- a block's list
module _ (contexts stats : List ℕ) (p : Params) (list room : List ℕ) where
  pub refused_first : (n : ℕ) → n ≡ pack_checks contexts stats p → (n ≡ 0 → ⊥) → packing_says (Err n) room ≡ pack_bins contexts stats p list room
  unfolding pack_bins
  refused_first n q h = sym (tree_checked (residual p stats) contexts list room n (pack_checks contexts stats p) q h)

  module _ (pass : 0 ≡ pack_checks contexts stats p) where
    behind : pack_bins contexts stats p list room ≡ pack_list contexts list room (run by_list (residual p stats) list)
    unfolding pack_bins
    behind = tree_read (residual p stats) contexts list room (pack_checks contexts stats p) pass

    reads : read_bins list stats p places ≡ read_from_list p stats places (run by_list (residual p stats) list)
    unfolding read_bins
    reads =
        let k = passed contexts stats p pass in
        ap (λ n. read_bins_by n list stats p places) (sym (or_else_rest 0 (parameter_refusal p places) (statistics_refusal stats) k.params k.counts)) ∙ unfold read_bins_by in refl

    -- r is what the bin reader answered
    module _ (r : Result found.Found ℕ) (st : List ℕ) (block' : List ℤ) (e : bins_read r st block' ≡ read_bins list stats p places) where
      answers : (bins_read r st block').answer ≡ (read_from_list p stats places (run by_list (residual p stats) list)).answer
      answers = ap (λ (z : BinsRead). z.answer) (e ∙ reads)

      pub refused_list : (m : ℕ) → r ≡ Err m → packing_says (Err 13) room ≡ pack_bins contexts stats p list room
      refused_list m q = sym (behind ∙ go (run by_list (residual p stats) list) (ap (λ (z : Result found.Found ℕ). (bins_read z st block').answer) (sym q) ∙ answers))
        where
          go : (o : Out (List ℕ) Block) → refused m ≡ (read_from_list p stats places o).answer → pack_list contexts list room o ≡ not_packed 13 room
          go (Out.ok b []) w = never m (found_of b) (w ∙ read_whole p stats b)
          go (Out.ok b (x ∷ l)) w = list_left Block contexts list room b x l
          go (Out.no n l) w = list_no_lem Block contexts list room n l

      -- it took the list to its end
      module _ (f : found.Found) (q : r ≡ Ok f) where
        took : (b : Block) × (run by_list (residual p stats) list ≡ Out.ok b [])
        took = go (run by_list (residual p stats) list) refl (ap (λ (z : Result found.Found ℕ). (bins_read z st block').answer) (sym q) ∙ answers)
          where
            go : (o : Out (List ℕ) Block) → run by_list (residual p stats) list ≡ o → (bins_read (Ok f) st block').answer ≡ (read_from_list p stats places o).answer
                → (b : Block) × (run by_list (residual p stats) list ≡ Out.ok b [])
            go (Out.ok b []) u w = (b, u)
            go (Out.ok b (x ∷ l)) u w = never 13 _ (sym (w ∙ read_left p stats b x l))
            go (Out.no n l) u w = never n _ (sym (w ∙ read_no p stats n l))

        pub packable : Packed contexts × (length list ≤ 2 * entries_most + 1)
        packable =
            let k = passed contexts stats p pass in
            (contexts_packed contexts k.bytes, omega (arith, list_few p stats k.within k.small list took.0 took.1))

        pub is_packed : (x : BinsPacked) → x ≡ pack_into contexts list room → x ≡ pack_bins contexts stats p list room
        is_packed x w = w ∙ sym (behind ∙ ap (pack_list contexts list room) took.1 ∙ list_whole Block contexts list room took.0)

-- ---- a scale's list
module _ (contexts : List ℕ) (c : ℕ) (list room : List ℕ) where
  pub scale_first : (n : ℕ) → n ≡ cross.component_refusal c → (n ≡ 0 → ⊥) → packing_says (Err n) room ≡ pack_scale contexts c list room
  unfolding pack_scale
  scale_first n q h =
      sym (tree_checked (scale c) contexts list room n (scale_checks contexts c) (or_else_first n (cross.component_refusal c) (contexts_refusal contexts) q h) h)

  pub scale_second : 0 ≡ cross.component_refusal c → (n : ℕ) → n ≡ above_refusal 127 contexts → (n ≡ 0 → ⊥) → packing_says (Err n) room ≡ pack_scale contexts c list room
  unfolding pack_scale
  scale_second z n q h =
      sym (tree_checked (scale c) contexts list room n (scale_checks contexts c)
      (or_else_rest n (cross.component_refusal c) (contexts_refusal contexts) z (q ∙ above_contexts contexts)) h)

  module _ (z : 0 ≡ cross.component_refusal c) (y : 0 ≡ above_refusal 127 contexts) where
    scale_behind : pack_scale contexts c list room ≡ pack_list contexts list room (run by_list (scale c) list)
    unfolding pack_scale
    scale_behind =
        tree_read (scale c) contexts list room (scale_checks contexts c) (or_else_rest 0 (cross.component_refusal c) (contexts_refusal contexts) z (y ∙ above_contexts contexts))

    module _ (r : scales.ReadList) (e : scales.bins_read r ≡ cross.read_bins list c) where
      pub scale_refused_list : (m : ℕ) → r ≡ Err m → packing_says (Err 13) room ≡ pack_scale contexts c list room
      scale_refused_list m q = sym (scale_behind ∙ go (run by_list (scale c) list) refl)
        where
          go : (o : Out (List ℕ) ℤ) → run by_list (scale c) list ≡ o → pack_list contexts list room o ≡ not_packed 13 room
          go (Out.ok v []) w = never m v (ap scales.bins_read (sym q) ∙ e ∙ reads_whole list c z v w)
          go (Out.ok v (x ∷ l)) w = list_left ℤ contexts list room v x l
          go (Out.no n l) w = list_no_lem ℤ contexts list room n l

      module _ (v : ℤ) (q : r ≡ Ok v) where
        scale_took : run by_list (scale c) list ≡ Out.ok v []
        scale_took = (reads_passed list c v (sym e ∙ ap scales.bins_read q)).1

        pub scale_packable : Packed contexts × (length list ≤ 2 * entries_most + 1)
        scale_packable =
            (contexts_packed contexts (y ∙ above_contexts contexts), omega (arith, scale_few c (component_few c z) list v scale_took))

        pub scale_is_packed : (x : BinsPacked) → x ≡ pack_into contexts list room → x ≡ pack_scale contexts c list room
        scale_is_packed x w = w ∙ sym (scale_behind ∙ ap (pack_list contexts list room) scale_took ∙ list_whole ℤ contexts list room v)

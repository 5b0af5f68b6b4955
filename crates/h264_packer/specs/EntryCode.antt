-- The entry point's code: each way out is what the definition says. Assumes nothing.
use Rattle.std.specs.Prelude.{ℕ, ◌+◌, ◌*◌, ◌≤◌, ◌≡◌, List, [], ◌∷◌, length, replicate, ℤ, pos, Err, true, false, Ok}
use Rattle.std.specs.Result.{is_err}
use Rattle.std.proofs.Math.Path.{refl, sym, ap}
use Rattle.std.proofs.Common.{◌∙◌, arith}
use Rattle.bins.specs.Syn.{Out, run, by_list}
use Rattle.bins.specs.CodeLaws.{Packed}
use Rattle.cabac.specs.Numbers.{accepted, refused}
use Rattle.trees.specs.Levels.{greatest_of}
use Rattle.trees.specs.Lent.{contexts_refusal}
use Rattle.packing.specs.Packs.{entries_most}
use Rattle.packing.specs.Entries.{BinsPacked, not_packed, pack_into, pack_list}
use Rattle.packing.proofs.EntriesLaws.{tree_checked, tree_read, list_whole, list_left, list_no_lem}
use Rattle.packer.specs.IntoCode.{packing_says}
use Rattle.h264_block.specs.Block.{block}
use Rattle.h264_block.specs.Entries.{BinsRead, read_from_list, read_bins_by, read_bins}
use Rattle.h264_block.specs.EntryLaws.{block_passes}
use Rattle.h264_reader.specs.EntriesAgree.{ReadList, list_says, bins_read}
use Rattle.h264_reader.specs.EntriesLaws.{contexts_packed}
use Rattle.h264_packer.specs.Entries.{pack_bins}
use Rattle.h264_packer.specs.Few.{list_few}

never : {A X : Type 0} (m : ℕ) (a : A) → refused m ≡ accepted a → X
never m a q = let z : ◌≡◌ {A = ℕ} 0 1 = cc in absurd (omega arith)

err_of : (r : ReadList) → is_err r ≡ true → (m : ℕ) × (r ≡ Err m)
err_of (Ok g) q = let z : ◌≡◌ {A = ℕ} 0 1 = cc in absurd (omega arith)
err_of (Err m) q = (m, refl)

ok_of : (r : ReadList) → is_err r ≡ false → (g : ℕ) × (r ≡ Ok g)
ok_of (Ok g) q = (g, refl)
ok_of (Err m) q = let z : ◌≡◌ {A = ℕ} 0 1 = cc in absurd (omega arith)

-- no block is handed in: the list is read into 16 places of its own
abbrev places : List ℤ
places = replicate 16 (pos 0)

read_whole : (l : List ℤ) → (read_from_list places (Out.ok l [])).answer ≡ accepted (greatest_of l)
unfolding read_from_list
read_whole l = refl

read_left : (l : List ℤ) (x : ℕ) (r : List ℕ) → (read_from_list places (Out.ok l (x ∷ r))).answer ≡ refused 13
unfolding read_from_list
read_left l x r = refl

read_no : (n : ℕ) (r : List ℕ) → (read_from_list places (Out.no n r)).answer ≡ refused n
unfolding read_from_list
read_no n r = refl

module _ (contexts list room : List ℕ) where
  pub refused_first : (n : ℕ) → n ≡ contexts_refusal contexts → (n ≡ 0 → ⊥) → packing_says (Err n) room ≡ pack_bins contexts list room
  unfolding pack_bins
  refused_first n q h = sym (tree_checked block contexts list room n (contexts_refusal contexts) q h)

  module _ (pass : 0 ≡ contexts_refusal contexts) where
    behind : pack_bins contexts list room ≡ pack_list contexts list room (run by_list block list)
    unfolding pack_bins
    behind = tree_read block contexts list room (contexts_refusal contexts) pass

    reads : read_bins list places ≡ read_from_list places (run by_list block list)
    unfolding read_bins
    reads = ap (λ n. read_bins_by n list places) (sym (block_passes places (omega arith))) ∙ unfold read_bins_by in refl

    -- r is what the bin reader answered
    module _ (r : ReadList) (block' : List ℤ) (e : bins_read r block' ≡ read_bins list places) where
      answers : list_says r ≡ (read_from_list places (run by_list block list)).answer
      answers = ap (λ (z : BinsRead). z.answer) (e ∙ reads)

      pub refused_list : is_err r ≡ true → packing_says (Err 13) room ≡ pack_bins contexts list room
      refused_list q = let e = err_of r q in sym (behind ∙ go e.0 (run by_list block list) (ap list_says (sym e.1) ∙ answers))
        where
          go : (m : ℕ) (o : Out (List ℕ) (List ℤ)) → refused m ≡ (read_from_list places o).answer → pack_list contexts list room o ≡ not_packed 13 room
          go m (Out.ok l []) w = never m (greatest_of l) (w ∙ read_whole l)
          go m (Out.ok l (x ∷ t)) w = list_left (List ℤ) contexts list room l x t
          go m (Out.no n t) w = list_no_lem (List ℤ) contexts list room n t

      -- it took the list to its end
      module _ (q : is_err r ≡ false) where
        took : (l : List ℤ) × (run by_list block list ≡ Out.ok l [])
        took = let e = ok_of r q in go e.0 (run by_list block list) refl (ap list_says (sym e.1) ∙ answers)
          where
            go : (g : ℕ) (o : Out (List ℕ) (List ℤ)) → run by_list block list ≡ o → accepted g ≡ (read_from_list places o).answer → (l : List ℤ) × (run by_list block list ≡ Out.ok l [])
            go g (Out.ok l []) u w = (l, u)
            go g (Out.ok l (x ∷ t)) u w = never 13 g (sym (w ∙ read_left l x t))
            go g (Out.no n t) u w = never n g (sym (w ∙ read_no n t))

        pub packable : Packed contexts × (length list ≤ 2 * entries_most + 1)
        packable = (contexts_packed contexts pass, omega (arith, list_few list took.0 took.1))

        pub is_packed : (x : BinsPacked) → x ≡ pack_into contexts list room → x ≡ pack_bins contexts list room
        is_packed x w = w ∙ sym (behind ∙ ap (pack_list contexts list room) took.1 ∙ list_whole (List ℤ) contexts list room took.0)

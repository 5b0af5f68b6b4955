-- The lists in turn are the tray's tree: all of them read and nothing left is the tree read to the end of the bytes. Assumes nothing.
use Rattle.std.specs.Prelude.{ℕ, ◌≡◌, true, false}
use Rattle.std.proofs.Math.Path.{refl, ap}
use Rattle.std.proofs.Common.{sym, ◌∙◌, arith}
use mathlib.Core.List.{List, [], ◌∷◌}
use Rattle.bins.specs.Syn.{done, ◌>>=◌, Out, run, by_list}
use Rattle.bins.specs.Laws.{bind_ok}
use Rattle.hevc_residual.specs.declared.params.Params.{Params}
use Rattle.hevc_residual.specs.Residual.{Block, residual}
use Rattle.packing.specs.Entries.{not_packed, pack_list}
use Rattle.packing.proofs.EntriesLaws.{list_left, list_no_lem}
use Rattle.hevc_packer.specs.Tray.{blocks_s}
use Rattle.hevc_packer.specs.TrayLaws.{split_blocks, none_blocks}
use Rattle.hevc_tray_packer.specs.Rows.{Lists, is_end, on_list, lists}

not_both : {X : Type 0} → false ≡ true → X
not_both q = let z : ◌≡◌ {A = ℕ} 0 1 = cc in absurd (omega arith)

none_left : (bins : List ℕ) → is_end bins ≡ true → bins ≡ []
unfolding is_end
none_left [] q = refl
none_left (x ∷ l) q = not_both q

on_ok : (next : List ℕ → List ℕ → Lists) (b : Block) (rest : List ℕ) → (on_list next (Out.ok b rest)).whole ≡ (next b.stats rest).whole
unfolding on_list
on_ok next b rest = refl

on_no : (next : List ℕ → List ℕ → Lists) (n : ℕ) (rest : List ℕ) → (on_list next (Out.no n rest)).whole ≡ false
unfolding on_list
on_no next n rest = refl

lists_next : (p : Params) (ps : List Params) (stats bins : List ℕ) → lists (p ∷ ps) stats bins ≡ on_list (lists ps) (run by_list (residual p stats) bins)
unfolding lists
lists_next p ps stats bins = refl

lists_none : (stats bins : List ℕ) → (lists [] stats bins).whole ≡ is_end bins
unfolding lists
lists_none stats bins = refl

next_read : (p : Params) (ps : List Params) (stats bins : List ℕ) (b : Block) (rest : List ℕ) (bs : List Block) → run by_list (residual p stats) bins ≡ Out.ok b rest
    → run by_list (blocks_s ps b.stats) rest ≡ Out.ok bs [] → run by_list (blocks_s (p ∷ ps) stats) bins ≡ Out.ok (b ∷ bs) []
unfolding blocks_s run
next_read p ps stats bins b rest bs e f =
    bind_ok by_list (residual p stats) (λ (b : Block). blocks_s ps b.stats >>= λ bs. done (b ∷ bs)) bins b rest e ∙ bind_ok by_list (blocks_s ps b.stats) (λ bs. done (b ∷ bs)) rest bs [] f

pub lists_read : (ps : List Params) (stats bins : List ℕ) → (lists ps stats bins).whole ≡ true → (bs : List Block) × (run by_list (blocks_s ps stats) bins ≡ Out.ok bs [])
lists_read [] stats bins q = ([], unfold blocks_s run in ap (λ (l : List ℕ). Out.ok [] l) (none_left bins (sym (lists_none stats bins) ∙ q)))
lists_read (p ∷ ps) stats bins q = go (run by_list (residual p stats) bins) refl (λ b rest. lists_read ps b.stats rest)
  where
    whole : (o : Out (List ℕ) Block) → run by_list (residual p stats) bins ≡ o → (on_list (lists ps) o).whole ≡ true
    whole o e = sym (ap (λ (o : Out (List ℕ) Block). (on_list (lists ps) o).whole) e) ∙ sym (ap (λ (l : Lists). l.whole) (lists_next p ps stats bins)) ∙ q

    go : (o : Out (List ℕ) Block) → run by_list (residual p stats) bins ≡ o
        → ((b : Block) (rest : List ℕ) → (lists ps b.stats rest).whole ≡ true → (bs : List Block) × (run by_list (blocks_s ps b.stats) rest ≡ Out.ok bs []))
        → (bs : List Block) × (run by_list (blocks_s (p ∷ ps) stats) bins ≡ Out.ok bs [])
    go (Out.ok b rest) e ih =
        let x = ih b rest (sym (on_ok (lists ps) b rest) ∙ whole (Out.ok b rest) e) in
        (b ∷ x.0, next_read p ps stats bins b rest x.0 e x.1)
    go (Out.no n rest) e ih = not_both (sym (on_no (lists ps) n rest) ∙ whole (Out.no n rest) e)

read_lists : (ps : List Params) (stats bins : List ℕ) (bs : List Block) → run by_list (blocks_s ps stats) bins ≡ Out.ok bs [] → (lists ps stats bins).whole ≡ true
read_lists [] stats bins bs q = lists_none stats bins ∙ ap is_end (none_blocks by_list stats bins bs [] q).1 ∙ unfold is_end in refl
read_lists (p ∷ ps) stats bins bs q =
    let x = split_blocks by_list p ps stats bins bs [] q in
    ap (λ (l : Lists). l.whole) (lists_next p ps stats bins) ∙ ap (λ (o : Out (List ℕ) Block). (on_list (lists ps) o).whole) x.3 ∙ on_ok (lists ps) x.0 x.1
    ∙ read_lists ps x.0.stats x.1 x.2 x.4

-- any other is 13
pub lists_refused : (ps : List Params) (contexts stats bins room : List ℕ) → (lists ps stats bins).whole ≡ false
    → pack_list contexts bins room (run by_list (blocks_s ps stats) bins) ≡ not_packed 13 room
lists_refused ps contexts stats bins room q = go (run by_list (blocks_s ps stats) bins) refl
  where
    go : (o : Out (List ℕ) (List Block)) → run by_list (blocks_s ps stats) bins ≡ o → pack_list contexts bins room o ≡ not_packed 13 room
    go (Out.ok bs []) e = not_both (sym q ∙ read_lists ps stats bins bs e)
    go (Out.ok bs (x ∷ l)) e = list_left (List Block) contexts bins room bs x l
    go (Out.no n l) e = list_no_lem (List Block) contexts bins room n l

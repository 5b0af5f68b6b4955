-- The lists as the code goes through them. Assumes nothing.
use Rattle.std.specs.Prelude.{ℕ, zero, suc, ◌+◌, ◌≤◌, ◌<◌, ◌≡◌, Bool, true, false, ℤ, pos, length, get_or, drop, take, replicate, eqb, Option, Some, None, Result, Ok, Err}
use Rattle.std.proofs.Math.Path.{refl, sym, ap}
use Rattle.std.proofs.Common.{subst, ◌∙◌, arith, add-one, drop_of_length-le, drop-cons, eqb-true}
use Rattle.std.proofs.lemmas.Bool.{eqb-false}
use mathlib.Core.List.{List, [], ◌∷◌}
use Rattle.std.proofs.lemmas.List.{length-replicate}
use Rattle.bins.specs.declared.state.Interval.{Interval}
use Rattle.bins.specs.declared.state.Refusal.{Refusal}
use Rattle.bins.specs.Interval.{place_of}
use Rattle.bins.specs.Syn.{Out, run, by_list}
use Rattle.bins.specs.Sources.{Cursor, cursor}
use Rattle.bins.specs.Laws.{map_out}
use Rattle.bins.specs.Listed.{left, run_listed}
use Rattle.hevc_residual.specs.declared.params.Params.{Params}
use Rattle.hevc_residual.specs.Wanted.{area}
use Rattle.hevc_residual.specs.Residual.{Block, residual}
use Rattle.hevc_residual.specs.Limits.{Statistics}
use Rattle.hevc_residual.specs.LimitLaws.{parameter_passed}
use Rattle.hevc_residual.specs.Numbers.{parameter_refusal}
use Rattle.hevc_elements.specs.Agree.{Reads, from, reads_on}
use Rattle.hevc_block.specs.declared.block.Blocked.{Blocked}
use Rattle.hevc_block.specs.BlockAgree.{block_of, SaysBlock}
use Rattle.hevc_tray.specs.Rows.{params_of, records_of}
use Rattle.hevc_packer.specs.Entries.{places}
use Rattle.hevc_packer.specs.Tray.{records_refusal}
use Rattle.hevc_packer.specs.TrayLaws.{record_first}
use Rattle.hevc_tray_packer.specs.declared.lists.Lists as code
use Rattle.hevc_tray_packer.specs.Rows.{Lists, is_end, on_list, lists}

-- what the answer for one list says: the block's tree, read from the place `at` on; none where it is refused
abbrev pub SaysList : Params → List ℕ → ℕ → List ℕ → Option ℕ → List ℕ → Type 0
SaysList p list at stats (Some end) stats' =
    (b : Block) × (run by_list (residual p stats) (drop at list) ≡ Out.ok b (drop end list)) × (b.stats ≡ stats') × Statistics stats' × (end ≤ length list)
SaysList p list at stats None stats' = (n : ℕ) × (rest : List ℕ) × (run by_list (residual p stats) (drop at list) ≡ Out.no n rest)

abbrev pub lists_seen : code.Lists → Lists
lists_seen r = record { done = r.done; whole = r.whole }

-- ---- one list; r is what the block's reading answered
module _ (p : Params) (l : List ℕ) (x : Interval) (cs stats : List ℕ) (r : Result Blocked Refusal) (cs' : List ℕ) (levels : List ℤ) (stats' : List ℕ)
    (s : SaysBlock p true l x cs stats r cs' levels stats') where
  abbrev Says : Result Blocked Refusal → Type 0
  Says z = SaysBlock p true l x cs stats z cs' levels stats'

  listed_is : run by_list (residual p stats) (drop (place_of x) l) ≡ map_out (left l) (from true l (residual p stats) x cs)
  listed_is = run_listed l (residual p stats) x cs

  pub list_got : Reads true l x cs → Statistics stats' → (b : Blocked) → r ≡ Ok b → SaysList p l (place_of x) stats (Some (place_of b.next)) stats'
  list_got g small b q =
      let w = subst (λ (z : Result Blocked Refusal). Says z) q s in
      let k = (reads_on true l (residual p stats) x cs (block_of b.found levels stats') b.next cs' w g).0 in
      (block_of b.found levels stats', listed_is ∙ ap (λ (o : Out Cursor Block). map_out (left l) o) w, refl, small, k)

  pub list_no_lem : (n : Refusal) → r ≡ Err n → (st : List ℕ) → SaysList p l (place_of x) stats None st
  list_no_lem n q st =
      let w = subst (λ (z : Result Blocked Refusal). Says z) q s in
      (n.number, left l (cursor n.at w.0), listed_is ∙ ap (λ (o : Out Cursor Block). map_out (left l) o) w.1)

-- the block's own places: the first n of 1,024
module _ (p : Params) (h : 0 ≡ parameter_refusal p places) (n : ℕ) (q : n ≡ area p) where
  pub own_few : n ≤ 1024
  own_few = omega (arith, (parameter_passed p places h).1)

  pub own_places : take n (replicate 1024 (pos 0)) ≡ replicate (area p) (pos 0)
  own_places = go 1024 n own_few ∙ ap (λ k. replicate k (pos 0)) q
    where
      go : (m n : ℕ) → n ≤ m → take n (replicate m (pos 0)) ≡ replicate n (pos 0)
      go m zero h = refl
      go zero (suc n) h = absurd (omega arith)
      go (suc m) (suc n) h = ap (λ (l : List ℤ). pos 0 ∷ l) (go m n (omega arith))

  pub own_count : n ≡ length (take n (replicate 1024 (pos 0)))
  own_count = sym (ap length own_places ∙ length-replicate (area p) (pos 0) ∙ sym q)

-- ---- the loop
on_ok : (next : List ℕ → List ℕ → Lists) (b : Block) (rest : List ℕ) → on_list next (Out.ok b rest) ≡ record { done = suc (next b.stats rest).done; whole = (next b.stats rest).whole }
unfolding on_list
on_ok next b rest = refl

on_no : (next : List ℕ → List ℕ → Lists) (n : ℕ) (rest : List ℕ) → on_list next (Out.no n rest) ≡ record { done = 0; whole = false }
unfolding on_list
on_no next n rest = refl

none_lists : (stats bins : List ℕ) → lists (records_of []) stats bins ≡ record { done = 0; whole = is_end bins }
unfolding records_of lists
none_lists stats bins = refl

abbrev told : ℕ → Bool → Lists
told done whole = record { done = done; whole = whole }

-- lists behind i of them
abbrev more : ℕ → Lists → Lists
more i l = told (i + l.done) l.whole

pub record Going (rows : List (List ℕ)) (stats list : List ℕ) (i at : ℕ) (st : List ℕ) : Type 0 where
  pub count : i ≤ length rows
  pub within : at ≤ length list
  pub small : Statistics st
  pub fine : 0 ≡ records_refusal (records_of (drop i rows))
  pub goes : lists (records_of rows) stats list ≡ more i (lists (records_of (drop i rows)) st (drop at list))

module _ (rows : List (List ℕ)) (stats list : List ℕ) where
  pub going_begin : 0 ≡ records_refusal (records_of rows) → Statistics stats → Going rows stats list 0 0 stats
  going_begin q s =
      let l = lists (records_of rows) stats list in
      let z : l.done ≡ 0 + l.done = omega arith in
      record { count = omega arith; within = omega arith; small = s; fine = q; goes = ap (λ (n : ℕ). told n l.whole) z }

  module _ (i at : ℕ) (st : List ℕ) (g : Going rows stats list i at st) where
    module _ (h : i < length rows) (p : Params) (e : p ≡ params_of (get_or rows i [])) where
      here : records_of (drop i rows) ≡ p ∷ records_of (drop (suc i) rows)
      unfolding records_of
      here = ap records_of (drop-cons rows i [] h) ∙ ap (λ (z : Params). z ∷ records_of (drop (suc i) rows)) (sym e)

      first : (0 ≡ parameter_refusal p places) × (0 ≡ records_refusal (records_of (drop (suc i) rows)))
      first = record_first p (records_of (drop (suc i) rows)) (g.fine ∙ ap records_refusal here)

      pub going_fine : 0 ≡ parameter_refusal p places
      going_fine = first.0

      next : (o : Out (List ℕ) Block) → run by_list (residual p st) (drop at list) ≡ o → lists (records_of rows) stats list ≡ more i (on_list (lists (records_of (drop (suc i) rows))) o)
      unfolding lists
      next o q = g.goes ∙ ap (λ (ps : List Params). more i (lists ps st (drop at list))) here ∙ ap (λ (o : Out (List ℕ) Block). more i (on_list (lists (records_of (drop (suc i) rows))) o)) q

      pub going_on : (end : ℕ) (st' : List ℕ) → SaysList p list at st (Some end) st' → Going rows stats list (i + 1) end st'
      going_on end st' s =
          let b = s.0 in
          let rest = records_of (drop (suc i) rows) in
          let a : lists (records_of rows) stats list ≡ more i (on_list (lists rest) (Out.ok b (drop end list))) = next (Out.ok b (drop end list)) s.1 in
          let n = lists rest b.stats (drop end list) in
          let z : i + suc n.done ≡ suc i + n.done = omega arith in
          let c : more i (on_list (lists rest) (Out.ok b (drop end list))) ≡ more (suc i) n = ap (more i) (on_ok (lists rest) b (drop end list)) ∙ ap (λ (k : ℕ). told k n.whole) z in
          rw (add-one i) (record {
            count = omega arith;
            within = s.4;
            small = s.3;
            fine = first.1;
            goes = a ∙ c ∙ ap (λ (z : List ℕ). more (suc i) (lists rest z (drop end list))) s.2;
          })

      pub going_no : (st' : List ℕ) → SaysList p list at st None st' → told i false ≡ lists (records_of rows) stats list
      going_no st' s =
          let z : i ≡ i + 0 = omega arith in
          ap (λ (n : ℕ). told n false) z ∙ sym (next (Out.no s.0 s.1) s.2 ∙ ap (more i) (on_no (lists (records_of (drop (suc i) rows))) s.0 s.1))

    module _ (h : length rows ≤ i) where
      all : lists (records_of rows) stats list ≡ told i (is_end (drop at list))
      all =
          let z : i + 0 ≡ i = omega arith in
          g.goes ∙ ap (λ (rs : List (List ℕ)). more i (lists (records_of rs) st (drop at list))) (drop_of_length-le rows {i = i} h) ∙ ap (more i) (none_lists st (drop at list))
          ∙ ap (λ (n : ℕ). told n (is_end (drop at list))) z

      pub going_whole : at ≡ length list → told i true ≡ lists (records_of rows) stats list
      going_whole q =
          let d : drop at list ≡ [] = drop_of_length-le list {i = at} (omega arith) in
          let b : is_end (drop at list) ≡ true = ap is_end d ∙ unfold is_end in refl in
          sym (all ∙ ap (λ (b : Bool). told i b) b)

      pub going_left : (at ≡ length list → ⊥) → told i false ≡ lists (records_of rows) stats list
      going_left q =
          let k : at < length list = omega (arith, g.within) in
          let b : is_end (drop at list) ≡ false = ap is_end (drop-cons list at 0 k) ∙ unfold is_end in refl in
          sym (all ∙ ap (λ (b : Bool). told i b) b)

      pub going_end : told i (eqb at (length list)) ≡ lists (records_of rows) stats list
      going_end = go (eqb at (length list)) refl
        where
          go : (d : Bool) → eqb at (length list) ≡ d → told i d ≡ lists (records_of rows) stats list
          go true q = going_whole (eqb-true at (length list) q)
          go false q = going_left (eqb-false at (length list) q)

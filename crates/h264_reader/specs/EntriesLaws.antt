-- The entry points' checks, and each way out of them. Assumes nothing.
use Prim.Native.Nat.{ℕ, zero, suc, ◌+◌, ◌≤◌, ◌<◌}
use Rattle.std.specs.Prelude.{◌≡◌, refl, Bool, ◌||◌, cond, ℤ, pos, ltb, Ok, Err}
use Rattle.std.specs.List.{list_any}
use Rattle.std.proofs.Math.Path.{sym, ap, subst}
use Rattle.std.proofs.Common.{◌∙◌, arith, add-one, ltb-false, lt-ltb, le-ltb}
use Rattle.std.proofs.Math.Bool.{true, false}
use mathlib.Core.List.{List, [], ◌∷◌, ◌++◌}
use Rattle.std.proofs.Math.ListN.{length, get_or, drop, replicate, drop_of_length-le}
use Rattle.std.proofs.Math.Seq.{drop-cons, drop_at}
use Rattle.bins.specs.declared.state.Engine.{Engine}
use Rattle.bins.specs.declared.state.Interval.{Interval}
use Rattle.bins.specs.declared.state.Refusal.{Refusal}
use Rattle.bins.specs.Bits.{ends, past_most}
use Rattle.bins.specs.Engine.{place}
use Rattle.bins.specs.Interval.{opened, settled, place_of, Goes}
use Rattle.bins.specs.Syn.{Out, run, by_list}
use Rattle.bins.specs.Sources.{Cursor, cursor, by_code, stopped, Step, got}
use Rattle.bins.specs.Laws.{map_out}
use Rattle.bins.specs.CodeLaws.{Packed}
use Rattle.bins.specs.EngineRuns.{runs_goes}
use Rattle.bins.specs.Settled.{seen, run_opened}
use Rattle.bins.specs.Listed.{left, run_listed}
use Rattle.cabac.specs.Numbers.{◌or_else◌, checked, payload_refusal, state_refusal, context_refusal, ended_refusal}
use Rattle.cabac.specs.NumberLaws.{checked_first, checked_rest, or_else_zero, payload_passed, state_fits, state_counts, state_runs}
use Rattle.trees.specs.Agree.{Reads, from, reads_on}
use Rattle.trees.specs.Levels.{greatest_of}
use Rattle.trees.specs.Lent.{contexts_refusal}
use Rattle.trees.specs.Reached.{each_run}
use Rattle.h264_block.specs.Block.{block}
use Rattle.h264_block.proofs.BlockBounds.{block_each}
use Rattle.h264_block.specs.EntryLaws.{block_passed}
use Rattle.h264_block.specs.Entries.{block_refusal, block_with, cleared, read_by_engine, read_payload_by, read_payload, read_from_list, read_bins_by, read_bins}
use Rattle.h264_block.specs.BlockAgree.{SaysInto}
use Rattle.h264_reader.specs.EntriesAgree.{payload_read, bins_read, payload_checks, found}

-- ---- 3, of contexts
context_fine : (c : ℕ) (l : List ℕ) → c ≤ 127 → contexts_refusal (c ∷ l) ≡ contexts_refusal l
unfolding contexts_refusal context_refusal ◌or_else◌
context_fine c l h = rw (le-ltb 127 c h)

context_over : (c : ℕ) (l : List ℕ) → 127 < c → contexts_refusal (c ∷ l) ≡ 3
unfolding contexts_refusal context_refusal ◌or_else◌
context_over c l h = rw (lt-ltb 127 c h)

module _ (l : List ℕ) where
  pub contexts_on : (i : ℕ) → i < length l → get_or l i 0 ≤ 127 → contexts_refusal (drop i l) ≡ contexts_refusal l → contexts_refusal (drop (i + 1) l) ≡ contexts_refusal l
  contexts_on i h k q =
      let d : drop i l ≡ get_or l i 0 ∷ drop (suc i) l = drop-cons l i 0 h in
      let s : contexts_refusal (drop (suc i) l) ≡ contexts_refusal l = sym (context_fine (get_or l i 0) (drop (suc i) l) k) ∙ ap contexts_refusal (sym d) ∙ q in
      rw (add-one i) s

  pub contexts_high : (i : ℕ) → i < length l → 127 < get_or l i 0 → contexts_refusal (drop i l) ≡ contexts_refusal l → 3 ≡ contexts_refusal l
  contexts_high i h k q = sym (context_over (get_or l i 0) (drop (suc i) l) k) ∙ ap contexts_refusal (sym (drop-cons l i 0 h)) ∙ q

  pub contexts_end : (i : ℕ) → length l ≤ i → contexts_refusal (drop i l) ≡ contexts_refusal l → 0 ≡ contexts_refusal l
  unfolding contexts_refusal
  contexts_end i h q = let d : drop i l ≡ [] = drop_of_length-le l h in sym (ap contexts_refusal d) ∙ q

pub contexts_any : (l : List ℕ) → cond (list_any (ltb 127) l) 3 0 ≡ contexts_refusal l
unfolding contexts_refusal context_refusal ◌or_else◌
contexts_any [] = refl
contexts_any (c ∷ l) = go (ltb 127 c) (contexts_any l)
  where
    go : (d : Bool) → cond (list_any (ltb 127) l) 3 0 ≡ contexts_refusal l → cond (d || list_any (ltb 127) l) 3 0 ≡ (cond d 3 0) or_else contexts_refusal l
    go true e = refl
    go false e = e

pub contexts_packed : (l : List ℕ) → 0 ≡ contexts_refusal l → Packed l
unfolding contexts_refusal context_refusal
contexts_packed [] q i = omega arith
contexts_packed (c ∷ l) q zero = go (ltb 127 c) refl (or_else_zero (context_refusal c) (contexts_refusal l) q).0
  where
    go : (a : Bool) → ltb 127 c ≡ a → ◌≡◌ {A = ℕ} 0 (cond a 3 0) → c < 128
    go true u z = absurd (omega arith)
    go false u z = let h = ltb-false 127 c u in omega arith
contexts_packed (c ∷ l) q (suc i) = contexts_packed l (or_else_zero (context_refusal c) (contexts_refusal l) q).1 i

pub zeros_packed : (n : ℕ) → Packed (replicate n 0)
zeros_packed zero i = omega arith
zeros_packed (suc n) zero = omega arith
zeros_packed (suc n) (suc i) = zeros_packed n i

-- ---- 6
not_ended : (e : Engine) (b : Bool) → e.ended ≡ b → 0 ≡ ended_refusal e → e.ended ≡ false
unfolding ended_refusal
not_ended e true u z = let y : ◌≡◌ {A = ℕ} 0 6 = rw u at z in absurd (omega arith)
not_ended e false u z = u

pub ended_is : (e : Engine) → e.ended ≡ true → Err 6 ≡ checked (ended_refusal e)
unfolding ended_refusal checked
ended_is e q = rw q

pub ended_not : (e : Engine) → e.ended ≡ false → Ok tt ≡ checked (ended_refusal e)
unfolding ended_refusal checked
ended_not e q = rw q

-- ---- a payload
pub record Passed (l : List ℕ) (e : Engine) (contexts : List ℕ) (lent : List ℤ) : Type 0 where
  pub short : length l ≤ 16777216
  pub fits : place e ≤ ends l
  pub counts : e.past ≤ past_most
  pub goes : Goes l (opened e)
  pub packed : Packed contexts
  pub room : 16 ≤ length lent

module _ (l : List ℕ) (e : Engine) (contexts : List ℕ) (lent : List ℤ) where
  abbrev c₄ : ℕ
  c₄ = contexts_refusal contexts or_else ended_refusal e

  abbrev c₃ : ℕ
  c₃ = state_refusal l e or_else c₄

  abbrev c₂ : ℕ
  c₂ = block_refusal lent or_else c₃

  pub checks_one : (n : ℕ) → Err n ≡ checked (payload_refusal l) → Err n ≡ checked (payload_checks l e contexts lent)
  checks_one n q = checked_first n (payload_refusal l) c₂ q

  module _ (z₁ : 0 ≡ payload_refusal l) where
    pub checks_two : (n : ℕ) → Err n ≡ checked (block_refusal lent) → Err n ≡ checked (payload_checks l e contexts lent)
    checks_two n q = checked_first n (block_refusal lent) c₃ q ∙ checked_rest (payload_refusal l) c₂ z₁

    module _ (z₂ : 0 ≡ block_refusal lent) where
      pub checks_three : (n : ℕ) → Err n ≡ checked (state_refusal l e) → Err n ≡ checked (payload_checks l e contexts lent)
      checks_three n q = checked_first n (state_refusal l e) c₄ q ∙ checked_rest (block_refusal lent) c₃ z₂ ∙ checked_rest (payload_refusal l) c₂ z₁

      module _ (z₃ : 0 ≡ state_refusal l e) where
        pub checks_four : (n : ℕ) → Err n ≡ checked (contexts_refusal contexts) → Err n ≡ checked (payload_checks l e contexts lent)
        checks_four n q =
            checked_first n (contexts_refusal contexts) (ended_refusal e) q ∙ checked_rest (state_refusal l e) c₄ z₃ ∙ checked_rest (block_refusal lent) c₃ z₂ ∙ checked_rest (payload_refusal l) c₂ z₁

        pub checks_five : 0 ≡ contexts_refusal contexts → checked (ended_refusal e) ≡ checked (payload_checks l e contexts lent)
        checks_five z₄ =
            checked_rest (contexts_refusal contexts) (ended_refusal e) z₄ ∙ checked_rest (state_refusal l e) c₄ z₃ ∙ checked_rest (block_refusal lent) c₃ z₂ ∙ checked_rest (payload_refusal l) c₂ z₁

  pub payload_no_lem : (n : ℕ) → n ≡ payload_checks l e contexts lent → (n ≡ 0 → ⊥) → payload_read (Err n) contexts lent ≡ read_payload l e contexts lent
  unfolding read_payload
  payload_no_lem n q h = go (payload_checks l e contexts lent) q
    where
      go : (k : ℕ) → n ≡ k → payload_read (Err n) contexts lent ≡ read_payload_by k l e contexts lent
      go zero u = absurd (h u)
      go (suc k) u = unfold read_payload_by in ap (λ m. payload_read (Err m) contexts lent) u

  module _ (q : 0 ≡ payload_checks l e contexts lent) where
    pub checks_passed : Passed l e contexts lent
    checks_passed =
        let a = or_else_zero (payload_refusal l) _ q in
        let b = or_else_zero (block_refusal lent) _ a.1 in
        let c = or_else_zero (state_refusal l e) _ b.1 in
        let d = or_else_zero (contexts_refusal contexts) _ c.1 in
        record {
          short = payload_passed l a.0;
          fits = state_fits l e c.0;
          counts = state_counts l e c.0;
          goes = runs_goes l e (state_runs l e a.0 c.0 (not_ended e e.ended refl d.1));
          packed = contexts_packed contexts d.0;
          room = block_passed lent b.0;
        }

    left_to_read : read_payload l e contexts lent ≡ read_by_engine contexts lent (map_out (seen l e) (from false l block (opened e) contexts))
    unfolding read_payload
    left_to_read =
        ap (λ n. read_payload_by n l e contexts lent) (sym q)
        ∙ unfold read_payload_by in ap (read_by_engine contexts lent) (run_opened l e block contexts checks_passed.fits checks_passed.counts)

    -- r is what the reading into the block answered
    module _ (r : Step) (contexts' : List ℕ) (lent' : List ℤ) (s : SaysInto r false l (opened e) contexts contexts' lent lent') where
      pub payload_refused : (m : Refusal) → r ≡ stopped m → payload_read (Err m.number) contexts' lent' ≡ read_payload l e contexts lent
      unfolding read_by_engine
      payload_refused m u =
          let w = subst (λ (z : Step). SaysInto z false l (opened e) contexts contexts' lent lent') u s in
          let a : payload_read (Err m.number) contexts' lent' ≡ payload_read (Err m.number) contexts (cleared lent) = rw (w.1, w.2) in
          let b : read_by_engine contexts lent (map_out (seen l e) (from false l block (opened e) contexts)) ≡ payload_read (Err m.number) contexts (cleared lent) =
          ap (λ (o : Out Cursor (List ℤ)). read_by_engine contexts lent (map_out (seen l e) o)) w.0.1 in
          a ∙ sym b ∙ sym left_to_read

      pub payload_got : (v : ℕ) (y : Interval) → r ≡ got v y → (d : Engine) → d ≡ settled l e y
          → payload_read (found v d) contexts' lent' ≡ read_payload l e contexts lent
      unfolding read_by_engine
      payload_got v y u d t =
          let w = subst (λ (z : Step). SaysInto z false l (opened e) contexts contexts' lent lent') u s in
          let g = greatest_of w.0 in
          let a : payload_read (found v d) contexts' lent' ≡ payload_read (found g (settled l e y)) contexts' (block_with w.0 lent) =
          ap (λ (t : Engine). payload_read (found v t) contexts' lent') t
          ∙ ap (λ (k : ℕ). payload_read (found k (settled l e y)) contexts' lent') w.2
          ∙ ap (λ (z : List ℤ). payload_read (found g (settled l e y)) contexts' z) w.1 in
          let b : read_by_engine contexts lent (map_out (seen l e) (from false l block (opened e) contexts)) ≡ payload_read (found g (settled l e y)) contexts' (block_with w.0 lent) =
          ap (λ (o : Out Cursor (List ℤ)). read_by_engine contexts lent (map_out (seen l e) o)) w.3 in
          a ∙ sym b ∙ sym left_to_read

-- ---- a bin list
module _ (l : List ℕ) (lent : List ℤ) where
  pub bins_no : (n : ℕ) → n ≡ block_refusal lent → (n ≡ 0 → ⊥) → bins_read (Err n) lent ≡ read_bins l lent
  unfolding read_bins
  bins_no n q h = go (block_refusal lent) q
    where
      go : (k : ℕ) → n ≡ k → bins_read (Err n) lent ≡ read_bins_by k l lent
      go zero u = absurd (h u)
      go (suc k) u = unfold read_bins_by in ap (λ m. bins_read (Err m) lent) u

  module _ (q : 0 ≡ block_refusal lent) (x : Interval) (front : place_of x ≡ 0) (contexts : List ℕ) where
    list_to_read : read_bins l lent ≡ read_from_list lent (map_out (left l) (from true l block x contexts))
    unfolding read_bins read_bins_by
    list_to_read =
        let w : run by_list block l ≡ map_out (left l) (from true l block x contexts) =
        ap (λ k. run by_list block (drop k l)) (sym front) ∙ run_listed l block x contexts in
        ap (λ n. read_bins_by n l lent) (sym q) ∙ ap (read_from_list lent) w

    module _ (r : Step) (contexts' : List ℕ) (lent' : List ℤ) (s : SaysInto r true l x contexts contexts' lent lent') where
      pub bins_refused : (m : Refusal) → r ≡ stopped m → bins_read (Err m.number) lent' ≡ read_bins l lent
      unfolding read_from_list
      bins_refused m u =
          let w = subst (λ (z : Step). SaysInto z true l x contexts contexts' lent lent') u s in
          let a : bins_read (Err m.number) lent' ≡ bins_read (Err m.number) (cleared lent) = ap (λ (z : List ℤ). bins_read (Err m.number) z) w.2 in
          let b : read_from_list lent (map_out (left l) (from true l block x contexts)) ≡ bins_read (Err m.number) (cleared lent) =
          ap (λ (o : Out Cursor (List ℤ)). read_from_list lent (map_out (left l) o)) w.0.1 in
          a ∙ sym b ∙ sym list_to_read

      module _ (v : ℕ) (y : Interval) (u : r ≡ got v y) where
        w : SaysInto (got v y) true l x contexts contexts' lent lent'
        w = subst (λ (z : Step). SaysInto z true l x contexts contexts' lent lent') u s

        went : read_bins l lent ≡ read_from_list lent (Out.ok w.0 (drop (place_of y) l))
        went = list_to_read ∙ ap (λ (o : Out Cursor (List ℤ)). read_from_list lent (map_out (left l) o)) w.3

        pub bins_got : place_of y ≡ length l → bins_read (Ok v) lent' ≡ read_bins l lent
        unfolding read_from_list
        bins_got h =
            let d : drop (place_of y) l ≡ [] = drop_of_length-le l {i = place_of y} (omega arith) in
            ap (λ (k : ℕ). bins_read (Ok k) lent') w.2 ∙ ap (λ (z : List ℤ). bins_read (Ok (greatest_of w.0)) z) w.1 ∙ sym (went ∙ ap (λ (t : List ℕ). read_from_list lent (Out.ok w.0 t)) d)

        -- bins are left over: the block is zero again
        pub bins_over : Reads true l x contexts → (place_of y ≡ length l → ⊥) → (last : List ℤ) → last ≡ block_with (replicate 16 (pos 0)) lent'
            → bins_read (Err 13) last ≡ read_bins l lent
        unfolding read_from_list
        bins_over h n last e =
            let k : place_of y ≤ length l = (reads_on true l block x contexts w.0 y contexts' w.3 h).0 in
            let d : drop (place_of y) l ≡ get_or l (place_of y) 0 ∷ drop (suc (place_of y)) l = drop-cons l (place_of y) 0 (omega (arith, k, n)) in
            let long : length w.0 ≡ 16 = (each_run (by_code true l) (block_each {n = 0}) (cursor x contexts) w.0 (cursor y contexts') w.3).1 in
            let t : drop 16 lent' ≡ drop 16 lent = ap (λ (z : List ℤ). drop 16 z) w.1 ∙ drop_at w.0 (drop 16 lent) 16 long in
            ap (λ (z : List ℤ). bins_read (Err 13) z) (e ∙ ap (λ (z : List ℤ). replicate 16 (pos 0) ++ z) t)
            ∙ sym (went ∙ ap (λ (t : List ℕ). read_from_list lent (Out.ok w.0 t)) d)

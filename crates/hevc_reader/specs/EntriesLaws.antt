-- The entry points' checks, and each way out of them. Assumes nothing.
use Prim.Native.Nat.{ℕ, zero, suc, ◌≤◌}
use Rattle.std.specs.Prelude.{◌≡◌, refl, Bool, ℤ, pos, replicate, Result, Ok, Err}
use Rattle.std.proofs.Math.Path.{sym, ap, subst}
use Rattle.std.proofs.Common.{◌∙◌, arith}
use Rattle.std.proofs.Math.Bool.{true, false}
use mathlib.Core.List.{List, [], ◌∷◌, ◌++◌}
use Rattle.std.proofs.Math.ListN.{length, get_or, drop, drop_of_length-le}
use Rattle.std.proofs.Math.Seq.{drop-cons}
use Rattle.bins.specs.declared.state.Engine.{Engine}
use Rattle.bins.specs.declared.state.Refusal.{Refusal}
use Rattle.bins.specs.declared.state.Interval.{Interval}
use Rattle.bins.specs.Bits.{ends, past_most}
use Rattle.bins.specs.Engine.{place}
use Rattle.bins.specs.Interval.{opened, settled, place_of, Goes}
use Rattle.bins.specs.Syn.{Out, run, by_list}
use Rattle.bins.specs.Sources.{Cursor}
use Rattle.bins.specs.Laws.{map_out}
use Rattle.bins.specs.CodeLaws.{Packed}
use Rattle.bins.specs.EngineRuns.{runs_goes}
use Rattle.bins.specs.Settled.{seen, run_opened}
use Rattle.bins.specs.Listed.{left, run_listed}
use Rattle.cabac.specs.Numbers.{◌or_else◌, payload_refusal, state_refusal, ended_refusal}
use Rattle.cabac.specs.NumberLaws.{or_else_zero, payload_passed, state_fits, state_counts, state_runs}
use Rattle.hevc_residual.specs.declared.params.Params.{Params}
use Rattle.hevc_residual.specs.Wanted.{area}
use Rattle.hevc_residual.specs.Residual.{Block, residual}
use Rattle.hevc_residual.specs.Limits.{Accepted, Statistics}
use Rattle.hevc_residual.specs.LimitLaws.{parameter_passed, statistics_passed}
use Rattle.hevc_residual.specs.Numbers.{parameter_refusal, contexts_refusal, statistics_refusal}
use Rattle.hevc_residual.specs.Entries.{block_with, cleared, read_by_engine, read_payload_by, read_payload, read_from_list, read_bins_by, read_bins}
use Rattle.hevc_elements.specs.Agree.{Reads, from, reads_on}
use Rattle.hevc_residual.specs.declared.answers.Found.{Found}
use Rattle.hevc_block.specs.declared.block.Blocked.{Blocked}
use Rattle.hevc_block.specs.BlockAgree.{block_of}
use Rattle.hevc_checks.specs.ChecksAgree.{bins_checks}
use Rattle.hevc_residual.specs.Answers.{payload_read, bins_read, payload_checks}
use Rattle.hevc_read_into.specs.IntoAgree.{SaysInto}
use Rattle.hevc_read_into.specs.IntoLaws.{cleared_again}
use Rattle.hevc_checks.specs.ChecksLaws.{contexts_packed}

-- ---- 6
not_ended : (e : Engine) (b : Bool) → e.ended ≡ b → 0 ≡ ended_refusal e → e.ended ≡ false
unfolding ended_refusal
not_ended e true u z = let y : ◌≡◌ {A = ℕ} 0 6 = rw u at z in absurd (omega arith)
not_ended e false u z = u

-- ---- a payload
pub record Passed (l : List ℕ) (e : Engine) (contexts stats : List ℕ) (p : Params) (block : List ℤ) : Type 0 where
  pub short : length l ≤ 16777216
  pub fits : place e ≤ ends l
  pub counts : e.past ≤ past_most
  pub goes : Goes l (opened e)
  pub packed : Packed contexts
  pub statistics : Statistics stats
  pub accepted : Accepted p
  pub room : area p ≤ length block

module _ (l : List ℕ) (e : Engine) (contexts stats : List ℕ) (p : Params) (block : List ℤ) where
  -- the checks' ways out
  abbrev c₁ : ℕ
  c₁ = payload_refusal l

  abbrev c₂ : ℕ
  c₂ = parameter_refusal p block

  abbrev c₃ : ℕ
  c₃ = state_refusal l e

  abbrev c₄ : ℕ
  c₄ = contexts_refusal contexts

  abbrev c₅ : ℕ
  c₅ = statistics_refusal stats

  abbrev c₆ : ℕ
  c₆ = ended_refusal e

  abbrev all : ℕ
  all = payload_checks l e contexts stats p block

  pub payload_no_lem : (n : ℕ) → n ≡ payload_checks l e contexts stats p block → (n ≡ 0 → ⊥) → payload_read (Err n) contexts stats block ≡ read_payload l e contexts stats p block
  unfolding read_payload
  payload_no_lem n q h = go all q
    where
      go : (k : ℕ) → n ≡ k → payload_read (Err n) contexts stats block ≡ read_payload_by k l e contexts stats p block
      go zero u = absurd (h u)
      go (suc k) u = unfold read_payload_by in ap (λ m. payload_read (Err m) contexts stats block) u

  module _ (q : 0 ≡ payload_checks l e contexts stats p block) where
    pub checks_passed : Passed l e contexts stats p block
    checks_passed =
        let a = or_else_zero c₁ (c₂ or_else c₃ or_else c₄ or_else c₅ or_else c₆) q in
        let b = or_else_zero c₂ (c₃ or_else c₄ or_else c₅ or_else c₆) a.1 in
        let c = or_else_zero c₃ (c₄ or_else c₅ or_else c₆) b.1 in
        let d = or_else_zero c₄ (c₅ or_else c₆) c.1 in
        let f = or_else_zero c₅ c₆ d.1 in
        let g = parameter_passed p block b.0 in
        record {
          short = payload_passed l a.0;
          fits = state_fits l e c.0;
          counts = state_counts l e c.0;
          goes = runs_goes l e (state_runs l e a.0 c.0 (not_ended e e.ended refl f.1));
          packed = contexts_packed contexts d.0;
          statistics = statistics_passed stats f.0;
          accepted = g.0;
          room = g.1;
        }

    left_to_read : read_payload l e contexts stats p block ≡ read_by_engine p contexts stats block (map_out (seen l e) (from false l (residual p stats) (opened e) contexts))
    unfolding read_payload
    left_to_read =
        ap (λ n. read_payload_by n l e contexts stats p block) (sym q)
        ∙ unfold read_payload_by in ap (read_by_engine p contexts stats block) (run_opened l e (residual p stats) contexts checks_passed.fits checks_passed.counts)

    -- r is what the reading into the block answered
    module _ (r : Result Blocked Refusal) (contexts' stats' : List ℕ) (block' : List ℤ) (s : SaysInto p false l (opened e) contexts stats block r contexts' stats' block') where
      pub payload_refused : (n : Refusal) → r ≡ Err n → payload_read (Err n.number) contexts' stats' block' ≡ read_payload l e contexts stats p block
      unfolding read_by_engine
      payload_refused n u =
          let w = subst (λ (z : Result Blocked Refusal). SaysInto p false l (opened e) contexts stats block z contexts' stats' block') u s in
          let a : payload_read (Err n.number) contexts' stats' block' ≡ payload_read (Err n.number) contexts stats (cleared p block) = rw (w.1, w.2, w.3) in
          let b : read_by_engine p contexts stats block (map_out (seen l e) (from false l (residual p stats) (opened e) contexts)) ≡ payload_read (Err n.number) contexts stats (cleared p block) =
          ap (λ (o : Out Cursor Block). read_by_engine p contexts stats block (map_out (seen l e) o)) w.0.1 in
          a ∙ sym b ∙ sym left_to_read

      pub payload_got : (f : Found) (y : Interval) → r ≡ Ok (record { found = f; next = y }) → (d : Engine) → d ≡ settled l e y
          → payload_read (Ok (record { found = f; state = d })) contexts' stats' block' ≡ read_payload l e contexts stats p block
      unfolding read_by_engine
      payload_got f y u d v =
          let w = subst (λ (z : Result Blocked Refusal). SaysInto p false l (opened e) contexts stats block z contexts' stats' block') u s in
          let a : payload_read (Ok (record { found = f; state = d })) contexts' stats' block' ≡ payload_read (Ok (record { found = f; state = settled l e y })) contexts' stats' (block_with p w.0 block) =
          ap (λ (t : Engine). payload_read (Ok (record { found = f; state = t })) contexts' stats' block') v ∙ ap (λ (z : List ℤ). payload_read (Ok (record { found = f; state = settled l e y })) contexts' stats' z) w.2 in
          let b : read_by_engine p contexts stats block (map_out (seen l e) (from false l (residual p stats) (opened e) contexts)) ≡ payload_read (Ok (record { found = f; state = settled l e y })) contexts' stats' (block_with p w.0 block) =
          ap (λ (o : Out Cursor Block). read_by_engine p contexts stats block (map_out (seen l e) o)) w.3 in
          a ∙ sym b ∙ sym left_to_read

-- ---- a bin list
pub record BinsPassed (stats : List ℕ) (p : Params) (block : List ℤ) : Type 0 where
  pub statistics : Statistics stats
  pub accepted : Accepted p
  pub room : area p ≤ length block

module _ (l : List ℕ) (stats : List ℕ) (p : Params) (block : List ℤ) where
  pub bins_no : (n : ℕ) → n ≡ bins_checks stats p block → (n ≡ 0 → ⊥) → bins_read (Err n) stats block ≡ read_bins l stats p block
  unfolding read_bins
  bins_no n q h = go (bins_checks stats p block) q
    where
      go : (k : ℕ) → n ≡ k → bins_read (Err n) stats block ≡ read_bins_by k l stats p block
      go zero u = absurd (h u)
      go (suc k) u = unfold read_bins_by in ap (λ m. bins_read (Err m) stats block) u

  module _ (q : 0 ≡ bins_checks stats p block) where
    pub bins_passed : BinsPassed stats p block
    bins_passed =
        let a = or_else_zero (parameter_refusal p block) (statistics_refusal stats) q in
        let g = parameter_passed p block a.0 in
        record { statistics = statistics_passed stats a.1; accepted = g.0; room = g.1 }

    module _ (x : Interval) (front : place_of x ≡ 0) (contexts : List ℕ) where
      list_to_read : read_bins l stats p block ≡ read_from_list p stats block (map_out (left l) (from true l (residual p stats) x contexts))
      unfolding read_bins read_bins_by
      list_to_read =
          let w : run by_list (residual p stats) l ≡ map_out (left l) (from true l (residual p stats) x contexts) =
          ap (λ k. run by_list (residual p stats) (drop k l)) (sym front) ∙ run_listed l (residual p stats) x contexts in
          ap (λ n. read_bins_by n l stats p block) (sym q) ∙ ap (read_from_list p stats block) w

      module _ (r : Result Blocked Refusal) (contexts' stats' : List ℕ) (block' : List ℤ) (s : SaysInto p true l x contexts stats block r contexts' stats' block') where
        abbrev Into : Result Blocked Refusal → Type 0
        Into z = SaysInto p true l x contexts stats block z contexts' stats' block'

        pub bins_refused : (n : Refusal) → r ≡ Err n → bins_read (Err n.number) stats block' ≡ read_bins l stats p block
        unfolding read_from_list
        bins_refused n u =
            let w = subst (λ (z : Result Blocked Refusal). Into z) u s in
            let a : bins_read (Err n.number) stats block' ≡ bins_read (Err n.number) stats (cleared p block) = ap (λ (z : List ℤ). bins_read (Err n.number) stats z) w.3 in
            let b : read_from_list p stats block (map_out (left l) (from true l (residual p stats) x contexts)) ≡ bins_read (Err n.number) stats (cleared p block) =
            ap (λ (o : Out Cursor Block). read_from_list p stats block (map_out (left l) o)) w.0.1 in
            a ∙ sym b ∙ sym list_to_read

        module _ (f : Found) (y : Interval) (u : r ≡ Ok (record { found = f; next = y })) where
          w : Into (Ok (record { found = f; next = y }))
          w = subst (λ (z : Result Blocked Refusal). Into z) u s

          got : read_bins l stats p block ≡ read_from_list p stats block (Out.ok (block_of f w.0 stats') (drop (place_of y) l))
          got = list_to_read ∙ ap (λ (o : Out Cursor Block). read_from_list p stats block (map_out (left l) o)) w.3

          pub bins_got : place_of y ≡ length l → bins_read (Ok f) stats' block' ≡ read_bins l stats p block
          unfolding read_from_list
          bins_got h =
              let d : drop (place_of y) l ≡ [] = drop_of_length-le l {i = place_of y} (omega arith) in
              let a : bins_read (Ok f) stats' block' ≡ bins_read (Ok f) stats' (block_with p w.0 block) = ap (λ (z : List ℤ). bins_read (Ok f) stats' z) w.2 in
              let b : read_from_list p stats block (Out.ok (block_of f w.0 stats') (drop (place_of y) l)) ≡ bins_read (Ok f) stats' (block_with p w.0 block) =
              ap (λ (z : List ℕ). read_from_list p stats block (Out.ok (block_of f w.0 stats') z)) d in
              a ∙ sym b ∙ sym got

          pub bins_over : Reads true l x contexts → (place_of y ≡ length l → ⊥) → (n : ℕ) → n ≡ area p → (last : List ℤ) → last ≡ replicate n (pos 0) ++ drop n block'
              → bins_read (Err 13) stats last ≡ read_bins l stats p block
          unfolding read_from_list
          bins_over g h n e last c =
              let k : place_of y ≤ length l = (reads_on true l (residual p stats) x contexts (block_of f w.0 stats') y contexts' w.3 g).0 in
              let d : drop (place_of y) l ≡ get_or l (place_of y) 0 ∷ drop (suc (place_of y)) l = drop-cons l (place_of y) 0 (omega arith) in
              let a : bins_read (Err 13) stats last ≡ bins_read (Err 13) stats (cleared p block) =
              ap (λ (z : List ℤ). bins_read (Err 13) stats z) (cleared_again p n e block w.0 block' last w.1 w.2 c) in
              let b : read_from_list p stats block (Out.ok (block_of f w.0 stats') (drop (place_of y) l)) ≡ bins_read (Err 13) stats (cleared p block) =
              ap (λ (z : List ℕ). read_from_list p stats block (Out.ok (block_of f w.0 stats') z)) d in
              a ∙ sym b ∙ sym got

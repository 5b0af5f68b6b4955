-- The scale's two readers: what they are handed looked at, and the tree read, as their code does it. Assumes nothing.
use Prim.Native.Nat.{ℕ, zero, suc, ◌≤◌, ◌<◌}
use Rattle.std.specs.Prelude.{◌≡◌, refl, Bool, cond, ltb, ℤ, Result, Ok, Err}
use Rattle.std.proofs.Math.Path.{sym, ap, subst}
use Rattle.std.proofs.Common.{◌∙◌, arith, to_z, of_z, ltb-false, lt-ltb, le-ltb}
use Rattle.std.proofs.Math.Bool.{true, false}
use mathlib.Core.List.{List, [], ◌∷◌}
use Rattle.std.specs.Int.{w32}
use Rattle.std.proofs.Math.ListN.{length, get_or, drop, drop_of_length-le}
use Rattle.std.proofs.Math.Seq.{drop-cons}
use Rattle.bins.specs.declared.state.Engine.{Engine}
use Rattle.bins.specs.declared.state.Refusal.{Refusal}
use Rattle.bins.specs.declared.state.Interval.{Interval}
use Rattle.bins.specs.Bits.{ends, past_most}
use Rattle.bins.specs.Engine.{place}
use Rattle.bins.specs.Interval.{place_of, opened, settled, Goes}
use Rattle.bins.specs.Syn.{Out, run, by_engine, by_list}
use Rattle.bins.specs.Sources.{Cursor, cursor}
use Rattle.bins.specs.Laws.{map_out}
use Rattle.bins.specs.CodeLaws.{Packed}
use Rattle.bins.specs.EngineRuns.{runs_goes}
use Rattle.bins.specs.Settled.{seen, run_opened}
use Rattle.bins.specs.Listed.{left, run_listed}
use Rattle.cabac.specs.Numbers.{◌or_else◌, checked, payload_refusal, state_refusal, ended_refusal}
use Rattle.cabac.specs.NumberLaws.{checked_first, checked_rest, or_else_zero, payload_passed, state_fits, state_counts, state_runs}
use Rattle.hevc_residual.specs.Numbers.{contexts_refusal}
use Rattle.hevc_elements.specs.Agree.{Reads, from, reads_on}
use Rattle.hevc_checks.specs.ChecksAgree.{above_refusal}
use Rattle.hevc_checks.specs.ChecksLaws.{above_contexts, contexts_packed}
use Rattle.hevc_scale_syntax.specs.declared.syntax.Scaled.{Scaled}
use Rattle.hevc_cross.specs.Scale.{scale_s}
use Rattle.hevc_cross.specs.Entries.{component_refusal, read_by_engine, read_payload_by, read_payload, read_from_list, read_bins_by, read_bins}
use Rattle.hevc_cross.specs.ScaleLaws.{scale_any}
use Rattle.hevc_scale_syntax.specs.Agree.{nothing, SaysScale}
use Rattle.hevc_scale_syntax.specs.CodeLaws.{scale_stays}
use Rattle.hevc_scale.specs.EntriesAgree.{payload_read, bins_read, payload_checks, found}

-- ---- 4
pub component_high : (c : ℕ) → 1 < c → 4 ≡ component_refusal c
unfolding component_refusal
component_high c h = rw (lt-ltb 1 c h)

pub component_fine : (c : ℕ) → c ≤ 1 → 0 ≡ component_refusal c
unfolding component_refusal
component_fine c h = rw (le-ltb 1 c h)

pub component_passed : (c : ℕ) → 0 ≡ component_refusal c → c ≤ 1
unfolding component_refusal
component_passed c q = go (ltb 1 c) refl q
  where
    go : (b : Bool) → ltb 1 c ≡ b → ◌≡◌ {A = ℕ} 0 (cond b 4 0) → c ≤ 1
    go true e q = absurd (omega arith)
    go false e q = ltb-false 1 c e

-- ---- 6
not_ended : (e : Engine) (b : Bool) → e.ended ≡ b → 0 ≡ ended_refusal e → e.ended ≡ false
unfolding ended_refusal
not_ended e true u z = let y : ◌≡◌ {A = ℕ} 0 6 = rw u at z in absurd (omega arith)
not_ended e false u z = u

-- ---- a payload
pub record Passed (l : List ℕ) (e : Engine) (contexts : List ℕ) (c : ℕ) : Type 0 where
  pub short : length l ≤ 16777216
  pub fits : place e ≤ ends l
  pub counts : e.past ≤ past_most
  pub goes : Goes l (opened e)
  pub packed : Packed contexts
  pub component : c ≤ 1

module _ (l : List ℕ) (e : Engine) (contexts : List ℕ) (c : ℕ) where
  -- what is looked at behind the payload, the component and the state
  abbrev c₄ : ℕ
  c₄ = contexts_refusal contexts or_else ended_refusal e

  abbrev c₃ : ℕ
  c₃ = state_refusal l e or_else c₄

  abbrev c₂ : ℕ
  c₂ = component_refusal c or_else c₃

  -- the checks' ways out
  pub checks_one : (n : ℕ) → Err n ≡ checked (payload_refusal l) → Err n ≡ checked (payload_checks l e contexts c)
  checks_one n q = checked_first n (payload_refusal l) c₂ q

  module _ (z₁ : 0 ≡ payload_refusal l) where
    pub checks_two : (n : ℕ) → Err n ≡ checked (component_refusal c) → Err n ≡ checked (payload_checks l e contexts c)
    checks_two n q = checked_first n (component_refusal c) c₃ q ∙ checked_rest (payload_refusal l) c₂ z₁

    module _ (z₂ : 0 ≡ component_refusal c) where
      later : checked c₃ ≡ checked (payload_checks l e contexts c)
      later = checked_rest (component_refusal c) c₃ z₂ ∙ checked_rest (payload_refusal l) c₂ z₁

      pub checks_three : (n : ℕ) → Err n ≡ checked (state_refusal l e) → Err n ≡ checked (payload_checks l e contexts c)
      checks_three n q = checked_first n (state_refusal l e) c₄ q ∙ later

      module _ (z₃ : 0 ≡ state_refusal l e) where
        pub checks_four : (n : ℕ) → Err n ≡ checked (above_refusal 127 contexts) → Err n ≡ checked (payload_checks l e contexts c)
        checks_four n q = checked_first n (contexts_refusal contexts) (ended_refusal e) (q ∙ ap checked (above_contexts contexts)) ∙ checked_rest (state_refusal l e) c₄ z₃ ∙ later

        pub checks_five : 0 ≡ above_refusal 127 contexts → checked (ended_refusal e) ≡ checked (payload_checks l e contexts c)
        checks_five z₄ = checked_rest (contexts_refusal contexts) (ended_refusal e) (z₄ ∙ above_contexts contexts) ∙ checked_rest (state_refusal l e) c₄ z₃ ∙ later

  pub payload_no_lem : (n : ℕ) → n ≡ payload_checks l e contexts c → (n ≡ 0 → ⊥) → payload_read (Err n) contexts ≡ read_payload l e contexts c
  unfolding read_payload
  payload_no_lem n q h = go (payload_checks l e contexts c) q
    where
      go : (k : ℕ) → n ≡ k → payload_read (Err n) contexts ≡ read_payload_by k l e contexts c
      go zero u = absurd (h u)
      go (suc k) u = unfold read_payload_by in ap (λ m. payload_read (Err m) contexts) u

  module _ (q : 0 ≡ payload_checks l e contexts c) where
    pub checks_passed : Passed l e contexts c
    checks_passed =
        let a = or_else_zero (payload_refusal l) c₂ q in
        let b = or_else_zero (component_refusal c) c₃ a.1 in
        let d = or_else_zero (state_refusal l e) c₄ b.1 in
        let f = or_else_zero (contexts_refusal contexts) (ended_refusal e) d.1 in
        record {
          short = payload_passed l a.0;
          fits = state_fits l e d.0;
          counts = state_counts l e d.0;
          goes = runs_goes l e (state_runs l e a.0 d.0 (not_ended e e.ended refl f.1));
          packed = contexts_packed contexts f.0;
          component = component_passed c b.0;
        }

    left_to_read : read_payload l e contexts c ≡ read_by_engine contexts (map_out (seen l e) (from false l (scale_s nothing c) (opened e) contexts))
    unfolding read_payload
    left_to_read =
        ap (λ n. read_payload_by n l e contexts c) (sym q)
        ∙ unfold read_payload_by in ap (read_by_engine contexts)
        (scale_any (by_engine l) c (λ z. z) nothing (record { engine = e; contexts = contexts }) ∙ run_opened l e (scale_s nothing c) contexts checks_passed.fits checks_passed.counts)

    -- r is what the reading answered
    module _ (r : Result Scaled Refusal) (contexts' : List ℕ) (s : SaysScale r contexts' (from false l (scale_s nothing c) (opened e) contexts)) where
      pub payload_refused : (m : Refusal) → r ≡ Err m → payload_read (Err m.number) contexts ≡ read_payload l e contexts c
      unfolding read_by_engine
      payload_refused m u =
          let w = subst (λ (z : Result Scaled Refusal). SaysScale z contexts' (from false l (scale_s nothing c) (opened e) contexts)) u s in
          sym (left_to_read ∙ ap (λ (o : Out Cursor ℤ). read_by_engine contexts (map_out (seen l e) o)) w.1)

      pub payload_got : (t : Scaled) → r ≡ Ok t → (d : Engine) → d ≡ settled l e t.next → payload_read (found (to_z w32 (of_z w32 t.scale)) d) contexts' ≡ read_payload l e contexts c
      unfolding read_by_engine
      payload_got t u d v =
          let w = subst (λ (z : Result Scaled Refusal). SaysScale z contexts' (from false l (scale_s nothing c) (opened e) contexts)) u s in
          ap (λ (i : ℤ). payload_read (found i d) contexts') (scale_stays false l (opened e) contexts c t.scale (cursor t.next contexts') w)
          ∙ ap (λ (d : Engine). payload_read (found t.scale d) contexts') v
          ∙ sym (left_to_read ∙ ap (λ (o : Out Cursor ℤ). read_by_engine contexts (map_out (seen l e) o)) w)

-- ---- a bin list
module _ (l : List ℕ) (c : ℕ) where
  pub bins_no : (n : ℕ) → n ≡ component_refusal c → (n ≡ 0 → ⊥) → bins_read (Err n) ≡ read_bins l c
  unfolding read_bins
  bins_no n q h = go (component_refusal c) q
    where
      go : (k : ℕ) → n ≡ k → bins_read (Err n) ≡ read_bins_by k l c
      go zero u = absurd (h u)
      go (suc k) u = unfold read_bins_by in ap (λ m. bins_read (Err m)) u

  module _ (q : 0 ≡ component_refusal c) (x : Interval) (front : place_of x ≡ 0) (contexts : List ℕ) where
    list_to_read : read_bins l c ≡ read_from_list (map_out (left l) (from true l (scale_s nothing c) x contexts))
    unfolding read_bins read_bins_by
    list_to_read =
        ap (λ n. read_bins_by n l c) (sym q)
        ∙ ap read_from_list (scale_any by_list c (λ z. z) nothing l ∙ ap (λ k. run by_list (scale_s nothing c) (drop k l)) (sym front) ∙ run_listed l (scale_s nothing c) x contexts)

    module _ (r : Result Scaled Refusal) (contexts' : List ℕ) (s : SaysScale r contexts' (from true l (scale_s nothing c) x contexts)) where
      pub bins_refused : (m : Refusal) → r ≡ Err m → bins_read (Err m.number) ≡ read_bins l c
      unfolding read_from_list
      bins_refused m u =
          let w = subst (λ (z : Result Scaled Refusal). SaysScale z contexts' (from true l (scale_s nothing c) x contexts)) u s in
          sym (list_to_read ∙ ap (λ (o : Out Cursor ℤ). read_from_list (map_out (left l) o)) w.1)

      module _ (t : Scaled) (u : r ≡ Ok t) where
        w : from true l (scale_s nothing c) x contexts ≡ Out.ok t.scale (cursor t.next contexts')
        w = subst (λ (z : Result Scaled Refusal). SaysScale z contexts' (from true l (scale_s nothing c) x contexts)) u s

        went : read_bins l c ≡ read_from_list (Out.ok t.scale (drop (place_of t.next) l))
        went = list_to_read ∙ ap (λ (o : Out Cursor ℤ). read_from_list (map_out (left l) o)) w

        pub bins_got : place_of t.next ≡ length l → bins_read (Ok (to_z w32 (of_z w32 t.scale))) ≡ read_bins l c
        unfolding read_from_list
        bins_got h =
            let d : drop (place_of t.next) l ≡ [] = drop_of_length-le l {i = place_of t.next} (omega arith) in
            ap (λ (i : ℤ). bins_read (Ok i)) (scale_stays true l x contexts c t.scale (cursor t.next contexts') w)
            ∙ sym (went ∙ ap (λ (m : List ℕ). read_from_list (Out.ok t.scale m)) d)

        pub bins_over : Reads true l x contexts → (place_of t.next ≡ length l → ⊥) → bins_read (Err 13) ≡ read_bins l c
        unfolding read_from_list
        bins_over g h =
            let k : place_of t.next ≤ length l = (reads_on true l (scale_s nothing c) x contexts t.scale t.next contexts' w g).0 in
            let d : drop (place_of t.next) l ≡ get_or l (place_of t.next) 0 ∷ drop (suc (place_of t.next)) l = drop-cons l (place_of t.next) 0 (omega arith) in
            sym (went ∙ ap (λ (m : List ℕ). read_from_list (Out.ok t.scale m)) d)

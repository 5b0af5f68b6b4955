-- Which numbers the plain entry points give: none gives 7, and none gives 3 for a statistic. The statistics stay, and the Rice number of any remainder is 4
-- at most. Assumes nothing.
use Prim.Native.Nat.{ℕ, zero, suc}
use Rattle.std.proofs.Math.Path.{◌≡◌, refl, sym, ap, subst}
use Rattle.std.proofs.Common.{◌∙◌, arith}
use mathlib.Core.List.{List, [], ◌∷◌}
use Rattle.std.specs.Prelude.{Bool, true, ◌&&◌, ltb, length, ℤ}
use Rattle.bins.specs.declared.state.Engine.{Engine}
use Rattle.bins.specs.Syn.{Out, Written, Reading, run, by_engine, by_list, write}
use Rattle.cabac.specs.Numbers.{Answer, accepted, refused, ◌or_else◌, payload_refusal, state_refusal, ended_refusal}
use Rattle.cabac.specs.NumberLaws.{or_else_zero, or_else_rest}
use Rattle.trees.specs.Every.{Each}
use Rattle.trees.specs.Reached.{Why, ByEngine, ByList, each_run, each_written, each_unwritten}
use Rattle.trees.specs.ReaderLaws.{clash}
use Rattle.hevc_residual.specs.declared.params.Params.{Params}
use Rattle.hevc_residual.specs.declared.params.Rdpcm.{Rdpcm}
use Rattle.hevc_residual.specs.Residual.{Block, residual}
use Rattle.hevc_residual.specs.Refusal.{all_zero, not_coded, too_far, any_disagrees, write_refusal}
use Rattle.hevc_residual.specs.Remainder.{log2_transform_range}
use Rattle.hevc_residual.specs.Wanted.{Wanted, inner_of, outer_of}
use Rattle.hevc_residual.specs.Numbers.{parameter_refusal, contexts_refusal, statistics_refusal, room_refusal}
use Rattle.hevc_residual.specs.Limits.{Accepted, Statistics}
use Rattle.hevc_residual.specs.LimitLaws.{parameter_passed, statistics_passed}
use Rattle.hevc_residual.specs.Entries.{Found, FoundAt, PayloadRead, read_by_engine, read_payload_by, BinsRead, read_from_list, read_bins_by, BinsWritten, wanted_from, write_list_by, write_list, write_bins_by}
use Rattle.hevc_bounds.specs.Among.{among, differ, same, Gives, gives_cond, gives_or, gives_payload, gives_parameter, gives_state, gives_contexts, gives_ended, given}
use Rattle.hevc_bounds.specs.Pieces.{bins_most, residual_bounds}
use Rattle.hevc_bounds.specs.ResidualBounds.{Whole, kept_none, residual_each}
use Rattle.hevc_bounds.specs.EntryNumbers.{payload_number, bins_number, payload_behind, bins_behind}
use Rattle.hevc_plain.specs.Plain.{plain_params, zeros, plain_refusal, read_plain, read_plain_bins, write_plain}
use Rattle.hevc_plain.specs.PlainLaws.{Plain, plain_passed, zeros_passed, statistics_idle, plain_full, plain_full_bins}
use Rattle.hevc_plain.specs.Rice.{residual_under, rice_never_over}

-- ---- the tree
-- its Rice number is never above 4, from any source: with the guard it is the same tree
pub plain_rice : (p : Params) (stats : List ℕ) → Plain p → residual_under 4 p stats ≡ residual p stats
plain_rice p stats h = rice_never_over p stats h.persistent

-- what passed 4 and 24
record Passed (p : Params) (stats : List ℕ) : Type 0 where
  plain : Plain p
  accepts : Accepted p
  within : Statistics stats

passed : (p : Params) (stats : List ℕ) (block : List ℤ) → 0 ≡ parameter_refusal p block → 0 ≡ plain_refusal p stats → Passed p stats
passed p stats block a b =
    let c = plain_passed p stats b in
    record { plain = c.0; accepts = (parameter_passed p block a).0; within = statistics_passed stats (zeros_passed stats c.1) }

-- the tree, of which every answer has the statistics handed in
whole : (p : Params) (stats : List ℕ) → Passed p stats → Each (residual_bounds p bins_most) (Whole p (λ l c. Unit {0}) stats bins_most) 0 (residual p stats)
whole p stats h = residual_each p h.accepts (kept_none p) stats h.within

gives_plain : (ms : List ℕ) → among ms 24 ≡ true → (p : Params) (stats : List ℕ) → Gives ms (plain_refusal p stats)
unfolding plain_refusal
gives_plain ms h p stats = gives_cond ms (plain_params p && zeros stats) 0 24 refl h

gives_write : (ms : List ℕ) → among ms 9 ≡ true → among ms 10 ≡ true → among ms 8 ≡ true → among ms 11 ≡ true → (p : Params) (w : Wanted) → Gives ms (write_refusal p w)
unfolding write_refusal
gives_write ms a b c d p w =
    gives_cond ms (all_zero w.levels) 9 _ a (gives_cond ms (not_coded p w) 10 _ b (gives_cond ms (too_far (log2_transform_range p) w.levels) 8 _ c
    (gives_cond ms (any_disagrees p w (inner_of p) (outer_of p)) 11 0 d refl)))

gives_zero : (ms : List ℕ) (n : ℕ) → 0 ≡ n → Gives ms n
gives_zero ms n q = subst (Gives ms) q refl

-- ---- the payload reader
module _ (l : List ℕ) (e : Engine) (contexts stats : List ℕ) (p : Params) (block : List ℤ) where
  -- 1, 2, 4, 24, 3, 6, and no 3 of the statistics
  abbrev plain_number : ℕ
  plain_number =
      payload_refusal l
      or_else parameter_refusal p block
      or_else plain_refusal p stats
      or_else state_refusal l e
      or_else contexts_refusal contexts
      or_else ended_refusal e

  pub statistics_never_3 : read_plain l e contexts stats p block ≡ read_payload_by plain_number l e contexts stats p block
  unfolding read_plain ◌or_else◌
  statistics_never_3 =
      ap (λ n. read_payload_by (payload_refusal l or_else parameter_refusal p block or_else n) l e contexts stats p block)
      (statistics_idle p stats (λ n. state_refusal l e or_else contexts_refusal contexts or_else n or_else ended_refusal e))

  -- what its checks say where they pass
  record Checked : Type 0 where
    plain : 0 ≡ plain_refusal p stats
    passes : Passed p stats
    full : 0 ≡ payload_number l e contexts stats p block

  checked : 0 ≡ plain_number → Checked
  checked z =
      let a = or_else_zero (payload_refusal l) _ z in
      let b = or_else_zero (parameter_refusal p block) _ a.1 in
      let c = or_else_zero (plain_refusal p stats) _ b.1 in
      let d = or_else_zero (state_refusal l e) _ c.1 in
      let f = or_else_zero (contexts_refusal contexts) _ d.1 in
      let s = zeros_passed stats (plain_passed p stats c.0).1 in
      record {
        plain = c.0;
        passes = passed p stats block b.0 c.0;
        full =
            or_else_rest 0 (payload_refusal l) _ a.0 (or_else_rest 0 (parameter_refusal p block) _ b.0 (or_else_rest 0 (state_refusal l e) _ d.0
            (or_else_rest 0 (contexts_refusal contexts) _ f.0 (or_else_rest 0 (statistics_refusal stats) _ s f.1))));
      }

  by_engine_lem : Plain p → (ms : List ℕ) → among ms 8 ≡ true → (n m : ℕ) → ByEngine (residual_bounds p bins_most) n m → among ms n ≡ true
  by_engine_lem h ms k n m (Why.stopped u) = subst (λ (z : ℕ). among ms z ≡ true) (sym u.0) k
  by_engine_lem h ms k n m (Why.missed u) = absurd u
  by_engine_lem h ms k n m (Why.unaligned u g) = clash h.aligning u.0

  -- by whatever state and contexts give
  numbers_by : (ms : List ℕ) → among ms 8 ≡ true → Gives ms plain_number → (n : ℕ) → (read_plain l e contexts stats p block).answer ≡ refused n → among ms n ≡ true
  numbers_by ms eight checks n q = go plain_number refl
    where
      go : (k : ℕ) → plain_number ≡ k → among ms n ≡ true
      go zero z =
          let c = checked (sym z) in
          let w = payload_behind l e contexts stats p block c.full n (sym (ap (λ (r : PayloadRead). r.answer) (plain_full l e contexts stats p block c.plain)) ∙ q) in
          by_engine_lem c.passes.plain ms eight n w.0 w.1
      go (suc k) z =
          given ms {A = FoundAt} k n (subst (Gives ms) z checks)
          (unfold read_payload_by in ap (λ (i : ℕ). (read_payload_by i l e contexts stats p block).answer) (sym z) ∙ sym (ap (λ (r : PayloadRead). r.answer) statistics_never_3) ∙ q)

  gives_checks : (ms : List ℕ) → among ms 1 ≡ true → among ms 2 ≡ true → among ms 4 ≡ true → among ms 24 ≡ true → among ms 6 ≡ true
      → Gives ms (state_refusal l e) → Gives ms (contexts_refusal contexts) → Gives ms plain_number
  gives_checks ms a b c d f s t =
      gives_or ms (payload_refusal l) _ (gives_payload ms a b l) (gives_or ms (parameter_refusal p block) _ (gives_parameter ms c p block)
      (gives_or ms (plain_refusal p stats) _ (gives_plain ms d p stats) (gives_or ms (state_refusal l e) _ s (gives_or ms (contexts_refusal contexts) _ t (gives_ended ms f e)))))

  pub plain_numbers : (n : ℕ) → (read_plain l e contexts stats p block).answer ≡ refused n → among (1 ∷ 2 ∷ 4 ∷ 24 ∷ 3 ∷ 6 ∷ 8 ∷ []) n ≡ true
  plain_numbers n q =
      let ms : List ℕ = 1 ∷ 2 ∷ 4 ∷ 24 ∷ 3 ∷ 6 ∷ 8 ∷ [] in
      numbers_by ms refl (gives_checks ms refl refl refl refl refl (gives_state ms refl l e) (gives_contexts ms refl contexts)) n q

  pub plain_never_7 : (read_plain l e contexts stats p block).answer ≡ refused 7 → ⊥
  plain_never_7 q = let h = plain_numbers 7 q in let z : ◌≡◌ {A = ℕ} 0 1 = cc in omega arith

  -- 3 is of the state or of a context
  pub plain_3 : 0 ≡ state_refusal l e → 0 ≡ contexts_refusal contexts → (read_plain l e contexts stats p block).answer ≡ refused 3 → ⊥
  plain_3 s t q =
      let ms : List ℕ = 1 ∷ 2 ∷ 4 ∷ 24 ∷ 6 ∷ 8 ∷ [] in
      let h = numbers_by ms refl (gives_checks ms refl refl refl refl refl (gives_zero ms _ s) (gives_zero ms _ t)) 3 q in
      let z : ◌≡◌ {A = ℕ} 0 1 = cc in omega arith

  -- whatever is answered, the statistics are those handed in: on acceptance all 0
  pub plain_statistics : (read_plain l e contexts stats p block).stats ≡ stats
  plain_statistics = ap (λ (r : PayloadRead). r.stats) statistics_never_3 ∙ go plain_number refl
    where
      read : (h : Passed p stats) (o : Out Reading Block) → run (by_engine l) (residual p stats) (record { engine = e; contexts = contexts }) ≡ o
          → (read_by_engine p contexts stats block o).stats ≡ stats
      read h (Out.ok b r) q = unfold read_by_engine in (each_run (by_engine l) (whole p stats h) (record { engine = e; contexts = contexts }) b r q).1.stays h.plain.persistent
      read h (Out.no k r) q = unfold read_by_engine in refl

      go : (n : ℕ) → plain_number ≡ n → (read_payload_by n l e contexts stats p block).stats ≡ stats
      go zero z = unfold read_payload_by in read (checked (sym z)).passes (run (by_engine l) (residual p stats) (record { engine = e; contexts = contexts })) refl
      go (suc n) z = unfold read_payload_by in refl

-- ---- the bin reader
module _ (bins stats : List ℕ) (p : Params) (block : List ℤ) where
  -- 4, 24
  abbrev plain_bins_number : ℕ
  plain_bins_number = parameter_refusal p block or_else plain_refusal p stats

  or_zero : (a : ℕ) → (a or_else 0) ≡ a
  unfolding ◌or_else◌
  or_zero zero = refl
  or_zero (suc a) = refl

  pub bins_statistics_never_3 : read_plain_bins bins stats p block ≡ read_bins_by plain_bins_number bins stats p block
  unfolding read_plain_bins
  bins_statistics_never_3 =
      ap (λ n. read_bins_by (parameter_refusal p block or_else n) bins stats p block) (statistics_idle p stats (λ n. n) ∙ or_zero (plain_refusal p stats))

  bins_passed : 0 ≡ plain_bins_number → (0 ≡ plain_refusal p stats) × Passed p stats × (0 ≡ bins_number stats p block)
  bins_passed z =
      let a = or_else_zero (parameter_refusal p block) (plain_refusal p stats) z in
      (a.1, passed p stats block a.0 a.1, or_else_rest 0 (parameter_refusal p block) _ a.0 (zeros_passed stats (plain_passed p stats a.1).1))

  by_list_lem : (ms : List ℕ) → among ms 8 ≡ true → among ms 13 ≡ true → (n m : ℕ) → ByList (residual_bounds p bins_most) n m → among ms n ≡ true
  by_list_lem ms x y n m (Why.stopped u) = subst (λ (z : ℕ). among ms z ≡ true) (sym u.0) x
  by_list_lem ms x y n m (Why.missed g) = subst (λ (z : ℕ). among ms z ≡ true) (sym g) y
  by_list_lem ms x y n m (Why.unaligned u g) = subst (λ (z : ℕ). among ms z ≡ true) (sym g) y

  -- no 3 and no 7
  pub plain_bins_numbers : (n : ℕ) → (read_plain_bins bins stats p block).answer ≡ refused n → among (4 ∷ 24 ∷ 8 ∷ 13 ∷ []) n ≡ true
  plain_bins_numbers n q = go plain_bins_number refl
    where
      ms : List ℕ
      ms = 4 ∷ 24 ∷ 8 ∷ 13 ∷ []

      go : (k : ℕ) → plain_bins_number ≡ k → among ms n ≡ true
      go zero z =
          let c = bins_passed (sym z) in
          let w = bins_behind bins stats p block c.2 n (sym (ap (λ (r : BinsRead). r.answer) (plain_full_bins bins stats p block c.0)) ∙ q) in
          by_list_lem ms refl refl n w.0 w.1
      go (suc k) z =
          given ms {A = Found} k n (subst (Gives ms) z (gives_or ms (parameter_refusal p block) _ (gives_parameter ms refl p block) (gives_plain ms refl p stats)))
          (unfold read_bins_by in ap (λ (i : ℕ). (read_bins_by i bins stats p block).answer) (sym z) ∙ sym (ap (λ (r : BinsRead). r.answer) bins_statistics_never_3) ∙ q)

  pub plain_bins_never_7 : (read_plain_bins bins stats p block).answer ≡ refused 7 → ⊥
  plain_bins_never_7 q = let h = plain_bins_numbers 7 q in let z : ◌≡◌ {A = ℕ} 0 1 = cc in omega arith

  pub plain_bins_never_3 : (read_plain_bins bins stats p block).answer ≡ refused 3 → ⊥
  plain_bins_never_3 q = let h = plain_bins_numbers 3 q in let z : ◌≡◌ {A = ℕ} 0 1 = cc in omega arith

  pub plain_bins_statistics : (read_plain_bins bins stats p block).stats ≡ stats
  plain_bins_statistics = ap (λ (r : BinsRead). r.stats) bins_statistics_never_3 ∙ go plain_bins_number refl
    where
      read : (h : Passed p stats) (o : Out (List ℕ) Block) → run by_list (residual p stats) bins ≡ o → (read_from_list p stats block o).stats ≡ stats
      read h (Out.ok b []) q = unfold read_from_list in (each_run by_list (whole p stats h) bins b [] q).1.stays h.plain.persistent
      read h (Out.ok b (x ∷ l)) q = unfold read_from_list in refl
      read h (Out.no k l) q = unfold read_from_list in refl

      go : (n : ℕ) → plain_bins_number ≡ n → (read_bins_by n bins stats p block).stats ≡ stats
      go zero z = unfold read_bins_by in read (bins_passed (sym z)).1 (run by_list (residual p stats) bins) refl
      go (suc n) z = unfold read_bins_by in refl

-- ---- the writer
module _ (p : Params) (stats : List ℕ) (block : List ℤ) (skip : Bool) (rdpcm : Rdpcm) (room : List ℕ) where
  abbrev w : Wanted
  w = wanted_from p block skip rdpcm

  -- 4, 24, 9, 10, 8, 11
  abbrev plain_write_number : ℕ
  plain_write_number = parameter_refusal p block or_else plain_refusal p stats or_else write_refusal p w

  pub write_statistics_never_3 : write_plain p stats block skip rdpcm room ≡ write_bins_by plain_write_number p stats w room
  unfolding write_plain ◌or_else◌
  write_statistics_never_3 =
      ap (λ n. write_bins_by (parameter_refusal p block or_else n) p stats w room) (statistics_idle p stats (λ n. n or_else write_refusal p w))

  write_passed : 0 ≡ plain_write_number → Passed p stats
  write_passed z =
      let a = or_else_zero (parameter_refusal p block) _ z in
      let b = or_else_zero (plain_refusal p stats) _ a.1 in
      passed p stats block a.0 b.0

  -- no 3 and no 7
  pub plain_write_numbers : (n : ℕ) → (write_plain p stats block skip rdpcm room).answer ≡ refused n → among (4 ∷ 24 ∷ 9 ∷ 10 ∷ 8 ∷ 11 ∷ 12 ∷ []) n ≡ true
  plain_write_numbers n q = go plain_write_number refl (sym (ap (λ (r : BinsWritten). r.answer) write_statistics_never_3) ∙ q)
    where
      ms : List ℕ
      ms = 4 ∷ 24 ∷ 9 ∷ 10 ∷ 8 ∷ 11 ∷ 12 ∷ []

      gives-room : (l : List ℕ) → Gives ms (room_refusal l room)
      gives-room l = unfold room_refusal in gives_cond ms (ltb (length room) (length l)) 12 0 refl refl

      listed : (l after : List ℕ) (k : ℕ) → room_refusal l room ≡ k → (write_list_by k l after stats room).answer ≡ refused n → among ms n ≡ true
      listed l after zero z e = let d : ◌≡◌ {A = Answer ℕ} (accepted (length l)) (refused n) = unfold write_list_by in e in differ d
      listed l after (suc k) z e = given ms {A = ℕ} k n (subst (Gives ms) z (gives-room l)) (unfold write_list_by in e)

      written : Passed p stats → (o : Written Block) → write (residual p stats) w ≡ o → (write_list stats room o).answer ≡ refused n → among ms n ≡ true
      written h (Written.ok b l) z e = listed l b.stats (room_refusal l room) refl (unfold write_list in e)
      written h (Written.no r) z e =
          let u = each_unwritten (whole p stats h) w r z in
          let d : ◌≡◌ {A = Answer ℕ} (refused r) (refused n) = unfold write_list in e in
          subst (λ (i : ℕ). among ms i ≡ true) (sym u.1.0 ∙ same r n d) refl

      go : (k : ℕ) → plain_write_number ≡ k → (write_bins_by plain_write_number p stats w room).answer ≡ refused n → among ms n ≡ true
      go zero z e =
          written (write_passed (sym z)) (write (residual p stats) w) refl
          (unfold write_bins_by in ap (λ (i : ℕ). (write_bins_by i p stats w room).answer) (sym z) ∙ e)
      go (suc k) z e =
          given ms {A = ℕ} k n
          (subst (Gives ms) z (gives_or ms (parameter_refusal p block) _ (gives_parameter ms refl p block) (gives_or ms (plain_refusal p stats) _ (gives_plain ms refl p stats) (gives_write ms refl refl refl refl p w))))
          (unfold write_bins_by in ap (λ (i : ℕ). (write_bins_by i p stats w room).answer) (sym z) ∙ e)

  pub plain_write_never_7 : (write_plain p stats block skip rdpcm room).answer ≡ refused 7 → ⊥
  plain_write_never_7 q = let h = plain_write_numbers 7 q in let z : ◌≡◌ {A = ℕ} 0 1 = cc in omega arith

  pub plain_write_never_3 : (write_plain p stats block skip rdpcm room).answer ≡ refused 3 → ⊥
  plain_write_never_3 q = let h = plain_write_numbers 3 q in let z : ◌≡◌ {A = ℕ} 0 1 = cc in omega arith

  pub plain_write_statistics : (write_plain p stats block skip rdpcm room).stats ≡ stats
  plain_write_statistics = ap (λ (r : BinsWritten). r.stats) write_statistics_never_3 ∙ go plain_write_number refl
    where
      listed : (k : ℕ) (l after : List ℕ) → after ≡ stats → (write_list_by k l after stats room).stats ≡ stats
      listed zero l after z = unfold write_list_by in z
      listed (suc k) l after z = unfold write_list_by in refl

      written : Passed p stats → (o : Written Block) → write (residual p stats) w ≡ o → (write_list stats room o).stats ≡ stats
      written h (Written.ok b l) z = unfold write_list in listed (room_refusal l room) l b.stats ((each_written (whole p stats h) w b l z).2.stays h.plain.persistent)
      written h (Written.no r) z = unfold write_list in refl

      go : (k : ℕ) → plain_write_number ≡ k → (write_bins_by k p stats w room).stats ≡ stats
      go zero z = unfold write_bins_by in written (write_passed (sym z)) (write (residual p stats) w) refl
      go (suc k) z = unfold write_bins_by in refl

-- The entry point's code: its checks, and each way out as the definition says. Assumes nothing.
use Prim.Native.Nat.{ℕ, zero, suc, ◌+◌, ◌*◌, ◌≤◌, ◌<◌}
use Rattle.std.specs.Prelude.{◌≡◌, refl, Bool, true, false, get_or, drop, Result, Err}
use Rattle.std.proofs.Math.Path.{sym, ap}
use Rattle.std.proofs.Common.{◌∙◌, arith, add-one, drop_of_length-le, drop-cons, lt-ltb, le-ltb}
use Rattle.std.proofs.Math.Bool.{cond}
use mathlib.Core.List.{List, []}
use Rattle.std.proofs.Math.ListN.{length}
use Rattle.bins.specs.Syn.{Out, run, by_list}
use Rattle.bins.specs.CodeLaws.{Packed}
use Rattle.cabac.specs.Numbers.{◌or_else◌}
use Rattle.cabac.specs.NumberLaws.{or_else_first, or_else_rest, or_else_zero}
use Rattle.hevc_residual.specs.declared.params.Params.{Params}
use Rattle.hevc_residual.specs.Residual.{Block}
use Rattle.hevc_residual.specs.Limits.{Statistics}
use Rattle.hevc_residual.specs.LimitLaws.{statistics_passed}
use Rattle.hevc_residual.specs.Numbers.{within_limits, parameter_refusal, contexts_refusal, statistics_refusal}
use Rattle.hevc_checks.specs.ChecksAgree.{above_refusal}
use Rattle.hevc_checks.specs.ChecksLaws.{above_contexts, above_statistics, contexts_packed}
use Rattle.hevc_tray.specs.Rows.{params_of, records_of, rows_refusal}
use Rattle.packing.specs.Packs.{entries_most}
use Rattle.packing.specs.Entries.{pack_into, pack_list}
use Rattle.packing.proofs.EntriesLaws.{tree_checked, tree_read, list_whole}
use Rattle.packer.specs.IntoCode.{packing_says}
use Rattle.hevc_packer.specs.Entries.{places}
use Rattle.hevc_packer.specs.Tray.{blocks_s, count_refusal, records_refusal, tray_checks}
use Rattle.hevc_packer.specs.TrayLaws.{tray_lists, count_few}
use Rattle.hevc_tray_packer.specs.declared.lists.Lists as code
use Rattle.hevc_tray_packer.specs.Rows.{Lists, lists, TrayPacked, row_checks, done_by, pack_rows}
use Rattle.hevc_tray_packer.specs.ListCode.{lists_seen}
use Rattle.hevc_tray_packer.specs.ListLaws.{lists_read, lists_refused}
use Rattle.hevc_tray_packer.specs.TrayAgain.{records_long}
use Rattle.hevc_tray_packer.specs.Promise.{tree_is}

-- ---- limits, record after record
parameter_four : (p : Params) → (parameter_refusal p places ≡ 0 → ⊥) → 4 ≡ parameter_refusal p places
unfolding parameter_refusal
parameter_four p z = go (within_limits p places) z
  where
    go : (b : Bool) → (◌≡◌ {A = ℕ} (cond b 0 4) 0 → ⊥) → ◌≡◌ {A = ℕ} 4 (cond b 0 4)
    go true z = absurd (z refl)
    go false z = refl

module _ (rows : List (List ℕ)) (i : ℕ) (e : records_refusal (records_of (drop i rows)) ≡ records_refusal (records_of rows)) where
  pub records_end : length rows ≤ i → 0 ≡ records_refusal (records_of rows)
  unfolding records_of records_refusal
  records_end h = sym (ap (λ (rs : List (List ℕ)). records_refusal (records_of rs)) (drop_of_length-le rows {i = i} h)) ∙ e

  module _ (h : i < length rows) (p : Params) (ep : p ≡ params_of (get_or rows i [])) (n : ℕ) (q : n ≡ parameter_refusal p places) where
    here : records_refusal (records_of (drop i rows)) ≡ (parameter_refusal p places or_else records_refusal (records_of (drop (suc i) rows)))
    unfolding records_of records_refusal
    here =
        ap (λ (rs : List (List ℕ)). records_refusal (records_of rs)) (drop-cons rows i [] h)
        ∙ ap (λ (z : Params). parameter_refusal z places or_else records_refusal (records_of (drop (suc i) rows))) (sym ep)

    pub records_bad : (n ≡ 0 → ⊥) → 4 ≡ records_refusal (records_of rows)
    records_bad z = or_else_first 4 (parameter_refusal p places) _ (parameter_four p (λ y. z (q ∙ y))) (λ y. absurd (omega arith)) ∙ sym here ∙ e

    pub records_on : n ≡ 0 → records_refusal (records_of (drop (i + 1) rows)) ≡ records_refusal (records_of rows)
    records_on z =
        let s : records_refusal (records_of (drop (suc i) rows)) ≡ (parameter_refusal p places or_else records_refusal (records_of (drop (suc i) rows))) =
        or_else_rest _ (parameter_refusal p places) _ (sym z ∙ q) refl in
        rw (add-one i) (s ∙ sym here ∙ e)

-- ---- the order of the checks
module _ (contexts stats : List ℕ) (rows : List (List ℕ)) where
  abbrev ps : List Params
  ps = records_of rows

  pub checks_one : (n : ℕ) → n ≡ rows_refusal rows → (n ≡ 0 → ⊥) → n ≡ row_checks contexts stats rows
  checks_one n q h = or_else_first n (rows_refusal rows) (tray_checks contexts stats (records_of rows)) q h

  module _ (z₁ : 0 ≡ rows_refusal rows) where
    pub checks_two : 256 < length rows → 4 ≡ row_checks contexts stats rows
    unfolding count_refusal
    checks_two h =
        let k : 256 < length (records_of rows) = omega (arith, records_long rows) in
        or_else_rest 4 (rows_refusal rows) _ z₁ (or_else_first 4 (count_refusal (records_of rows)) _ (sym (ap (λ b. cond b 4 0) (lt-ltb 256 (length (records_of rows)) k))) (λ y. absurd (omega arith)))

    module _ (few : length rows ≤ 256) where
      z₂ : 0 ≡ count_refusal (records_of rows)
      unfolding count_refusal
      z₂ = sym (ap (λ b. cond b 4 0) (le-ltb 256 (length (records_of rows)) (omega (arith, records_long rows))))

      pub checks_three : (n : ℕ) → n ≡ records_refusal (records_of rows) → (n ≡ 0 → ⊥) → n ≡ row_checks contexts stats rows
      checks_three n q h = or_else_rest n (rows_refusal rows) _ z₁ (or_else_rest n (count_refusal ps) _ z₂ (or_else_first n (records_refusal ps) (contexts_refusal contexts or_else statistics_refusal stats) q h))

      module _ (z₃ : 0 ≡ records_refusal (records_of rows)) where
        pub checks_four : (n : ℕ) → n ≡ above_refusal 127 contexts → (n ≡ 0 → ⊥) → n ≡ row_checks contexts stats rows
        checks_four n q h =
            or_else_rest n (rows_refusal rows) _ z₁ (or_else_rest n (count_refusal ps) _ z₂ (or_else_rest n (records_refusal ps) _ z₃
            (or_else_first n (contexts_refusal contexts) (statistics_refusal stats) (q ∙ above_contexts contexts) h)))

        pub checks_five : 0 ≡ above_refusal 127 contexts → (n : ℕ) → n ≡ above_refusal 84 stats → n ≡ row_checks contexts stats rows
        checks_five y n q =
            or_else_rest n (rows_refusal rows) _ z₁ (or_else_rest n (count_refusal ps) _ z₂ (or_else_rest n (records_refusal ps) _ z₃
            (or_else_rest n (contexts_refusal contexts) (statistics_refusal stats) (y ∙ above_contexts contexts) (q ∙ above_statistics stats))))

  -- what they let through
  pub record Passed : Type 0 where
    pub few : length (records_of rows) ≤ 256
    pub records : 0 ≡ records_refusal (records_of rows)
    pub packs : Packed contexts
    pub small : Statistics stats

  pub passed : 0 ≡ row_checks contexts stats rows → Passed
  passed pass =
      let a = or_else_zero (rows_refusal rows) (tray_checks contexts stats ps) pass in
      let b = or_else_zero (count_refusal ps) (records_refusal ps or_else contexts_refusal contexts or_else statistics_refusal stats) a.1 in
      let c = or_else_zero (records_refusal ps) (contexts_refusal contexts or_else statistics_refusal stats) b.1 in
      let d = or_else_zero (contexts_refusal contexts) (statistics_refusal stats) c.1 in
      record { few = count_few ps b.0; records = c.0; packs = contexts_packed contexts d.0; small = statistics_passed stats d.1 }

-- ---- the ways out
module _ (contexts stats : List ℕ) (rows : List (List ℕ)) (list room : List ℕ) where
  abbrev said : ℕ → Result ℕ ℕ → List ℕ → TrayPacked
  said done p room' = record { done = done; packed = packing_says p room' }

  whole_is : (done : ℕ) (p : Result ℕ ℕ) (room' : List ℕ) → done ≡ (pack_rows contexts stats rows list room).done → packing_says p room' ≡ (pack_rows contexts stats rows list room).packed
      → said done p room' ≡ pack_rows contexts stats rows list room
  whole_is done p room' a b = λ i. record { done = a i; packed = b i }

  pub refused_first : (n : ℕ) → n ≡ row_checks contexts stats rows → (n ≡ 0 → ⊥) → said 0 (Err n) room ≡ pack_rows contexts stats rows list room
  unfolding pack_rows done_by
  refused_first n q h =
      whole_is 0 (Err n) room (none n q h)
      (sym (tree_is contexts stats rows list room ∙ tree_checked (blocks_s (records_of rows) stats) contexts list room n (row_checks contexts stats rows) q h))
    where
      none : (n : ℕ) → n ≡ row_checks contexts stats rows → (n ≡ 0 → ⊥) → 0 ≡ (pack_rows contexts stats rows list room).done
      none zero q h = absurd (h refl)
      none (suc n) q h = ap (λ k. done_by k (records_of rows) stats list) q

  module _ (pass : 0 ≡ row_checks contexts stats rows) (r : code.Lists) (e : lists_seen r ≡ lists (records_of rows) stats list) where
    behind : (pack_rows contexts stats rows list room).packed ≡ pack_list contexts list room (run by_list (blocks_s (records_of rows) stats) list)
    behind = tree_is contexts stats rows list room ∙ tree_read (blocks_s (records_of rows) stats) contexts list room (row_checks contexts stats rows) pass

    counted : r.done ≡ (pack_rows contexts stats rows list room).done
    unfolding pack_rows
    counted = ap (λ (l : Lists). l.done) e ∙ unfold done_by in ap (λ k. done_by k (records_of rows) stats list) pass

    pub refused_lists : r.whole ≡ false → said r.done (Err 13) room ≡ pack_rows contexts stats rows list room
    refused_lists q =
        whole_is r.done (Err 13) room counted
        (sym (behind ∙ lists_refused (records_of rows) contexts stats list room (ap (λ (l : Lists). l.whole) (sym e) ∙ q)))

    module _ (q : r.whole ≡ true) where
      took : (bs : List Block) × (run by_list (blocks_s (records_of rows) stats) list ≡ Out.ok bs [])
      took = lists_read (records_of rows) stats list (ap (λ (l : Lists). l.whole) (sym e) ∙ q)

      pub packable : Packed contexts × (length list ≤ 2 * entries_most + 1)
      packable =
          let k = passed contexts stats rows pass in
          let z = tray_lists (records_of rows) stats list took.0 k.records k.small took.1 in
          (k.packs, omega (arith, z.0, k.few))

      pub is_packed : (p : Result ℕ ℕ) (room' : List ℕ) → packing_says p room' ≡ pack_into contexts list room → said r.done p room' ≡ pack_rows contexts stats rows list room
      is_packed p room' w =
          whole_is r.done p room' counted (w ∙ sym (behind ∙ ap (pack_list contexts list room) took.1 ∙ list_whole (List Block) contexts list room took.0))

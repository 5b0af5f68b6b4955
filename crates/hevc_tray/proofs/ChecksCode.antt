-- The checks before anything is read, as their code goes through the records. Assumes nothing.
use Rattle.std.specs.Prelude.{ℕ, zero, suc, ◌+◌, ◌-◌, ◌≤◌, ◌<◌, ◌≡◌, Bool, true, false, cond, ℤ, length, get_or, take, drop, ltb}
use Rattle.std.proofs.Math.Path.{refl, sym, ap}
use Rattle.std.proofs.Common.{subst, ◌∙◌, arith, add-one, drop_of_length-le, length-drop, drop-cons, drop-drop, take_all, lt-ltb, le-ltb}
use mathlib.Core.List.{List, [], ◌∷◌, ◌++◌}
use Rattle.bins.specs.declared.state.Engine.{Engine}
use Rattle.cabac.specs.Numbers.{◌or_else◌, payload_refusal, state_refusal, ended_refusal}
use Rattle.cabac.specs.NumberLaws.{or_else_first, or_else_rest, or_else_zero}
use Rattle.hevc_residual.specs.declared.params.Params.{Params}
use Rattle.hevc_residual.specs.Wanted.{area}
use Rattle.hevc_residual.specs.Limits.{Accepted}
use Rattle.hevc_residual.specs.LimitLaws.{parameter_passed}
use Rattle.hevc_residual.specs.Numbers.{within_limits, parameter_refusal, contexts_refusal, statistics_refusal}
use Rattle.hevc_checks.specs.ChecksAgree.{above_refusal}
use Rattle.hevc_checks.specs.ChecksLaws.{above_contexts, above_statistics}
use Rattle.hevc_tray.specs.Rows.{params_of, records_of, four, flags_refusal, rows_refusal}
use Rattle.hevc_tray.specs.Tray.{count_refusal, records_refusal, rooms_refusal, tray_checks}

-- ---- flags
pub flags_fine : (row : List ℕ) (n : ℕ) → n ≡ above_refusal 1 (take 11 (drop 3 row)) → n ≡ 0 → 0 ≡ flags_refusal row
unfolding flags_refusal four
flags_fine row n q z = ap four (sym z ∙ q)

pub flags_bad : (row : List ℕ) (n : ℕ) → n ≡ above_refusal 1 (take 11 (drop 3 row)) → (n ≡ 0 → ⊥) → 4 ≡ flags_refusal row
unfolding flags_refusal four
flags_bad row n q z = go n z ∙ ap four q
  where
    go : (n : ℕ) → (n ≡ 0 → ⊥) → 4 ≡ four n
    go zero z = absurd (z refl)
    go (suc n) z = refl

four_some : (k : ℕ) → (four k ≡ 0 → ⊥) → 4 ≡ four k
unfolding four
four_some zero y = absurd (y refl)
four_some (suc k) y = refl

flags_some : (row : List ℕ) → (flags_refusal row ≡ 0 → ⊥) → 4 ≡ flags_refusal row
unfolding flags_refusal
flags_some row y = four_some (above_refusal 1 (take 11 (drop 3 row))) y

module _ (rows : List (List ℕ)) where
  pub rows_on : (i : ℕ) → i < length rows → (n : ℕ) → n ≡ flags_refusal (get_or rows i []) → n ≡ 0 → rows_refusal (drop i rows) ≡ rows_refusal rows
      → rows_refusal (drop (i + 1) rows) ≡ rows_refusal rows
  rows_on i h n q z e =
      let d : rows_refusal (drop i rows) ≡ (flags_refusal (get_or rows i []) or_else rows_refusal (drop (suc i) rows)) = ap rows_refusal (drop-cons rows i [] h) ∙ unfold rows_refusal in refl in
      let s : rows_refusal (drop (suc i) rows) ≡ (flags_refusal (get_or rows i []) or_else rows_refusal (drop (suc i) rows)) = or_else_rest (rows_refusal (drop (suc i) rows)) (flags_refusal (get_or rows i [])) (rows_refusal (drop (suc i) rows)) (sym z ∙ q) refl in
      rw (add-one i) (s ∙ sym d ∙ e)

  pub rows_bad : (i : ℕ) → i < length rows → (n : ℕ) → n ≡ flags_refusal (get_or rows i []) → (n ≡ 0 → ⊥) → rows_refusal (drop i rows) ≡ rows_refusal rows
      → 4 ≡ rows_refusal rows
  rows_bad i h n q z e =
      let d : rows_refusal (drop i rows) ≡ (flags_refusal (get_or rows i []) or_else rows_refusal (drop (suc i) rows)) = ap rows_refusal (drop-cons rows i [] h) ∙ unfold rows_refusal in refl in
      let f : 4 ≡ flags_refusal (get_or rows i []) = flags_some (get_or rows i []) (λ y. z (q ∙ y)) in
      or_else_first 4 (flags_refusal (get_or rows i [])) (rows_refusal (drop (suc i) rows)) f (λ y. absurd (omega arith)) ∙ sym d ∙ e

  pub rows_end : (i : ℕ) → length rows ≤ i → rows_refusal (drop i rows) ≡ rows_refusal rows → 0 ≡ rows_refusal rows
  rows_end i h e = unfold rows_refusal in (sym (ap rows_refusal (drop_of_length-le rows {i = i} h)) ∙ e)

-- ---- limits and places
parameter_four : (p : Params) (block : List ℤ) → (parameter_refusal p block ≡ 0 → ⊥) → 4 ≡ parameter_refusal p block
unfolding parameter_refusal
parameter_four p block z = go (within_limits p block) z
  where
    go : (b : Bool) → (◌≡◌ {A = ℕ} (cond b 0 4) 0 → ⊥) → ◌≡◌ {A = ℕ} 4 (cond b 0 4)
    go true z = absurd (z refl)
    go false z = refl

module _ (rows : List (List ℕ)) (levels : List ℤ) (i at : ℕ) (e : records_refusal (records_of (drop i rows)) (drop at levels) ≡ records_refusal (records_of rows) levels) where
  pub records_end : length rows ≤ i → 0 ≡ records_refusal (records_of rows) levels
  unfolding records_of records_refusal
  records_end h = sym (ap (λ (rs : List (List ℕ)). records_refusal (records_of rs) (drop at levels)) (drop_of_length-le rows {i = i} h)) ∙ e

  module _ (h : i < length rows) (p : Params) (ep : p ≡ params_of (get_or rows i [])) (n : ℕ) (q₀ : n ≡ parameter_refusal p (take (length levels - at) (drop at levels))) where
    q : n ≡ parameter_refusal p (drop at levels)
    q = q₀ ∙ ap (λ (v : List ℤ). parameter_refusal p v) (take_all (length levels - at) (drop at levels) (omega (arith, length-drop at levels)))

    here : records_refusal (records_of (drop i rows)) (drop at levels) ≡ (parameter_refusal p (drop at levels) or_else records_refusal (records_of (drop (suc i) rows)) (drop (area p) (drop at levels)))
    unfolding records_of records_refusal
    here =
        ap (λ (rs : List (List ℕ)). records_refusal (records_of rs) (drop at levels)) (drop-cons rows i [] h)
        ∙ ap (λ (z : Params). parameter_refusal z (drop at levels) or_else records_refusal (records_of (drop (suc i) rows)) (drop (area z) (drop at levels))) (sym ep)

    pub records_bad : (n ≡ 0 → ⊥) → 4 ≡ records_refusal (records_of rows) levels
    records_bad z =
        or_else_first 4 (parameter_refusal p (drop at levels)) _ (parameter_four p (drop at levels) (λ y. z (q ∙ y))) (λ y. absurd (omega arith)) ∙ sym here ∙ e

    pub records_fine : n ≡ 0 → at ≤ length levels → Accepted p × (at + area p ≤ length levels)
    records_fine z h = let g = parameter_passed p (drop at levels) (sym z ∙ q) in (g.0, omega (arith, g.1, length-drop at levels))

    pub records_on : n ≡ 0 → (k : ℕ) → k ≡ area p → records_refusal (records_of (drop (i + 1) rows)) (drop (at + k) levels) ≡ records_refusal (records_of rows) levels
    records_on z k ek =
        let s : records_refusal (records_of (drop (suc i) rows)) (drop (area p) (drop at levels)) ≡ (parameter_refusal p (drop at levels) or_else records_refusal (records_of (drop (suc i) rows)) (drop (area p) (drop at levels))) =
        or_else_rest _ (parameter_refusal p (drop at levels)) _ (sym z ∙ q) refl in
        let d : drop (area p) (drop at levels) ≡ drop (at + k) levels = drop-drop (area p) at levels ∙ ap (λ (m : ℕ). drop (at + m) levels) (sym ek) in
        rw (add-one i) (ap (λ (v : List ℤ). records_refusal (records_of (drop (suc i) rows)) v) (sym d) ∙ s ∙ sym here ∙ e)

-- ---- count and rooms
pub count_over : (n : ℕ) → 256 < n → 4 ≡ count_refusal n
unfolding count_refusal
count_over n h = rw (lt-ltb 256 n h)

pub count_fine : (n : ℕ) → n ≤ 256 → 0 ≡ count_refusal n
unfolding count_refusal
count_fine n h = rw (le-ltb 256 n h)

pub rooms_short : (rooms n : ℕ) → rooms < n → 4 ≡ rooms_refusal rooms n
unfolding rooms_refusal
rooms_short rooms n h = rw (lt-ltb rooms n h)

pub rooms_fine : (rooms n : ℕ) → n ≤ rooms → 0 ≡ rooms_refusal rooms n
unfolding rooms_refusal
rooms_fine rooms n h = rw (le-ltb rooms n h)

records_long : (rows : List (List ℕ)) → length (records_of rows) ≡ length rows
unfolding records_of
records_long [] = refl
records_long (r ∷ rows) = ap suc (records_long rows)

-- ---- the order
module _ (l : List ℕ) (e : Engine) (contexts stats : List ℕ) (rows : List (List ℕ)) (levels : List ℤ) (rooms : ℕ) where
  abbrev many : ℕ
  many = length (records_of rows)

  abbrev c₂ : ℕ
  c₂ = count_refusal many

  abbrev c₃ : ℕ
  c₃ = rows_refusal rows

  abbrev c₄ : ℕ
  c₄ = records_refusal (records_of rows) levels

  abbrev c₅ : ℕ
  c₅ = rooms_refusal rooms many

  abbrev All : ℕ
  All = tray_checks l e contexts stats (rows_refusal rows) (records_of rows) levels rooms

  pub tray_one : (n : ℕ) → n ≡ payload_refusal l → (n ≡ 0 → ⊥) → n ≡ All
  tray_one n q h = or_else_first n (payload_refusal l) _ q h

  module _ (z₁ : 0 ≡ payload_refusal l) where
    pub tray_two : 256 < length rows → 4 ≡ All
    tray_two h = or_else_rest 4 (payload_refusal l) _ z₁ (or_else_first 4 c₂ _ (count_over many (omega (arith, records_long rows))) (λ y. absurd (omega arith)))

    module _ (h₂ : length rows ≤ 256) where
      z₂ : 0 ≡ count_refusal (length (records_of rows))
      z₂ = count_fine many (omega (arith, records_long rows))

      pub tray_three : (n : ℕ) → n ≡ rows_refusal rows → (n ≡ 0 → ⊥) → n ≡ All
      tray_three n q h = or_else_rest n (payload_refusal l) _ z₁ (or_else_rest n c₂ _ z₂ (or_else_first n c₃ _ q h))

      module _ (z₃ : 0 ≡ rows_refusal rows) where
        pub tray_four : (n : ℕ) → n ≡ records_refusal (records_of rows) levels → (n ≡ 0 → ⊥) → n ≡ All
        tray_four n q h = or_else_rest n (payload_refusal l) _ z₁ (or_else_rest n c₂ _ z₂ (or_else_rest n c₃ _ z₃ (or_else_first n c₄ _ q h)))

        module _ (z₄ : 0 ≡ records_refusal (records_of rows) levels) where
          pub tray_five : rooms < length rows → 4 ≡ All
          tray_five h =
              or_else_rest 4 (payload_refusal l) _ z₁ (or_else_rest 4 c₂ _ z₂ (or_else_rest 4 c₃ _ z₃ (or_else_rest 4 c₄ _ z₄
              (or_else_first 4 c₅ _ (rooms_short rooms many (omega (arith, records_long rows))) (λ y. absurd (omega arith))))))

          module _ (h₅ : length rows ≤ rooms) where
            -- behind the records, what any call looks at
            rest : (n : ℕ) → n ≡ (state_refusal l e or_else contexts_refusal contexts or_else statistics_refusal stats or_else ended_refusal e) → n ≡ All
            rest n q =
                or_else_rest n (payload_refusal l) _ z₁ (or_else_rest n c₂ _ z₂ (or_else_rest n c₃ _ z₃ (or_else_rest n c₄ _ z₄
                (or_else_rest n c₅ _ (rooms_fine rooms many (omega (arith, records_long rows))) q))))

            pub tray_six : (n : ℕ) → n ≡ state_refusal l e → (n ≡ 0 → ⊥) → n ≡ All
            tray_six n q h = rest n (or_else_first n (state_refusal l e) _ q h)

            module _ (z₆ : 0 ≡ state_refusal l e) where
              pub tray_seven : (n : ℕ) → n ≡ above_refusal 127 contexts → (n ≡ 0 → ⊥) → n ≡ All
              tray_seven n q h = rest n (or_else_rest n (state_refusal l e) _ z₆ (or_else_first n (contexts_refusal contexts) _ (q ∙ above_contexts contexts) h))

              module _ (z₇ : 0 ≡ above_refusal 127 contexts) where
                pub tray_eight : (n : ℕ) → n ≡ above_refusal 84 stats → (n ≡ 0 → ⊥) → n ≡ All
                tray_eight n q h =
                    rest n (or_else_rest n (state_refusal l e) _ z₆ (or_else_rest n (contexts_refusal contexts) _ (z₇ ∙ above_contexts contexts)
                    (or_else_first n (statistics_refusal stats) _ (q ∙ above_statistics stats) h)))

                pub tray_nine : 0 ≡ above_refusal 84 stats → (n : ℕ) → n ≡ ended_refusal e → n ≡ All
                tray_nine z₈ n q =
                    rest n (or_else_rest n (state_refusal l e) _ z₆ (or_else_rest n (contexts_refusal contexts) _ (z₇ ∙ above_contexts contexts)
                    (or_else_rest n (statistics_refusal stats) _ (z₈ ∙ above_statistics stats) q)))

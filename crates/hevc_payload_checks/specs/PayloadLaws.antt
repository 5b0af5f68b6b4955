-- The ways out of the checks before a payload is read: the first number that is not 0. Assumes nothing.
use Rattle.std.specs.Prelude.{ℕ, ◌≡◌, List, ℤ, Err}
use Rattle.std.proofs.Math.Path.{ap}
use Rattle.std.proofs.Common.{◌∙◌}
use Rattle.bins.specs.declared.state.Engine.{Engine}
use Rattle.cabac.specs.Numbers.{◌or_else◌, checked, payload_refusal, state_refusal, ended_refusal}
use Rattle.cabac.specs.NumberLaws.{checked_first, checked_rest}
use Rattle.hevc_residual.specs.declared.params.Params.{Params}
use Rattle.hevc_residual.specs.Numbers.{parameter_refusal, contexts_refusal, statistics_refusal}
use Rattle.hevc_residual.specs.Answers.{payload_checks}
use Rattle.hevc_checks.specs.ChecksAgree.{above_refusal}
use Rattle.hevc_checks.specs.ChecksLaws.{above_contexts, above_statistics}

module _ (l : List ℕ) (e : Engine) (contexts stats : List ℕ) (p : Params) (block : List ℤ) where
  -- what is looked at behind the payload, the parameters, the state and the contexts
  abbrev c₅ : ℕ
  c₅ = statistics_refusal stats or_else ended_refusal e

  abbrev c₄ : ℕ
  c₄ = contexts_refusal contexts or_else c₅

  abbrev c₃ : ℕ
  c₃ = state_refusal l e or_else c₄

  abbrev c₂ : ℕ
  c₂ = parameter_refusal p block or_else c₃

  pub checks_one : (n : ℕ) → Err n ≡ checked (payload_refusal l) → Err n ≡ checked (payload_checks l e contexts stats p block)
  checks_one n q = checked_first n (payload_refusal l) c₂ q

  module _ (z₁ : 0 ≡ payload_refusal l) where
    pub checks_two : (n : ℕ) → Err n ≡ checked (parameter_refusal p block) → Err n ≡ checked (payload_checks l e contexts stats p block)
    checks_two n q = checked_first n (parameter_refusal p block) c₃ q ∙ checked_rest (payload_refusal l) c₂ z₁

    module _ (z₂ : 0 ≡ parameter_refusal p block) where
      later : checked c₃ ≡ checked (payload_checks l e contexts stats p block)
      later = checked_rest (parameter_refusal p block) c₃ z₂ ∙ checked_rest (payload_refusal l) c₂ z₁

      pub checks_three : (n : ℕ) → Err n ≡ checked (state_refusal l e) → Err n ≡ checked (payload_checks l e contexts stats p block)
      checks_three n q = checked_first n (state_refusal l e) c₄ q ∙ later

      module _ (z₃ : 0 ≡ state_refusal l e) where
        pub checks_four : (n : ℕ) → Err n ≡ checked (above_refusal 127 contexts) → Err n ≡ checked (payload_checks l e contexts stats p block)
        checks_four n q = checked_first n (contexts_refusal contexts) c₅ (q ∙ ap checked (above_contexts contexts)) ∙ checked_rest (state_refusal l e) c₄ z₃ ∙ later

        module _ (z₄ : 0 ≡ above_refusal 127 contexts) where
          last : checked c₅ ≡ checked (payload_checks l e contexts stats p block)
          last = checked_rest (contexts_refusal contexts) c₅ (z₄ ∙ above_contexts contexts) ∙ checked_rest (state_refusal l e) c₄ z₃ ∙ later

          pub checks_five : (n : ℕ) → Err n ≡ checked (above_refusal 84 stats) → Err n ≡ checked (payload_checks l e contexts stats p block)
          checks_five n q = checked_first n (statistics_refusal stats) (ended_refusal e) (q ∙ ap checked (above_statistics stats)) ∙ last

          pub checks_six : 0 ≡ above_refusal 84 stats → checked (ended_refusal e) ≡ checked (payload_checks l e contexts stats p block)
          checks_six z₅ = checked_rest (statistics_refusal stats) (ended_refusal e) (z₅ ∙ above_statistics stats) ∙ last

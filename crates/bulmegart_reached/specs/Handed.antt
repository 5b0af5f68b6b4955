-- What the exported function answers: the definition's state and total, behind C's flags; and that the code gives it. Assumes nothing.
use Prim.Native.Nat.{ℕ, zero, suc}
use Rattle.std.specs.Prelude.{◌≡◌, List, ℤ}
use Rattle.std.proofs.Math.Path.{refl, ap}
use Rattle.std.proofs.Common.{sym, ◌∙◌, arith}
use Rattle.bins.specs.declared.state.Engine.{Engine}
use Rattle.cabac.specs.Numbers.{◌or_else◌, payload_refusal}
use Rattle.hevc_residual.specs.declared.params.Params.{Params}
use Rattle.hevc_reached.specs.declared.entries.ReachedAt.{ReachedAt}
use Rattle.hevc_reached.specs.Reading.{reached_all}
use Rattle.bulmegart.specs.declared.records.EngineState.{EngineState}
use Rattle.bulmegart.specs.declared.records.BlockParams.{BlockParams}
use Rattle.bulmegart.specs.Records.{state_flags, params_flags, engine_of, state_of, params_of}
use Rattle.bulmegart_reached.specs.declared.ReachedAnswer.{ReachedAnswer}

abbrev pub reached_given : ReachedAt → ReachedAnswer
reached_given r = record { state = state_of r.state; past = r.past }

-- behind 1, 2 and 4 of a flag above 1, which gave the number n
unfoldable pub reached_by : ℕ → List ℕ → EngineState → List ℕ → List ℕ → BlockParams → List ℤ → ReachedAnswer
reached_by zero l s contexts stats p block = reached_given (reached_all l (engine_of s) contexts stats (params_of p) block)
reached_by (suc n) l s contexts stats p block = record { state = s; past = 0 }

unfoldable pub reached_handed : List ℕ → EngineState → List ℕ → List ℕ → BlockParams → List ℤ → ReachedAnswer
reached_handed l s contexts stats p block = reached_by (payload_refusal l or_else state_flags s or_else params_flags p) l s contexts stats p block

module _ (l : List ℕ) (s : EngineState) (contexts stats : List ℕ) (p : BlockParams) (block : List ℤ) (n : ℕ)
    (q : n ≡ (payload_refusal l or_else state_flags s or_else params_flags p)) where
  pub handed_no : (n ≡ 0 → ⊥) → record { state = s; past = 0 } ≡ reached_handed l s contexts stats p block
  unfolding reached_handed
  handed_no h = go (payload_refusal l or_else state_flags s or_else params_flags p) q
    where
      go : (k : ℕ) → n ≡ k → record { state = s; past = 0 } ≡ reached_by k l s contexts stats p block
      go zero u = absurd (h u)
      go (suc k) u = unfold reached_by in refl

  pub handed_yes : n ≡ 0 → (e : Engine) (params : Params) (r : ReachedAt) (t : EngineState) → e ≡ engine_of s → params ≡ params_of p
      → r ≡ reached_all l e contexts stats params block → t ≡ state_of r.state → record { state = t; past = r.past } ≡ reached_handed l s contexts stats p block
  unfolding reached_handed
  handed_yes z e params r t a b c d =
      ap (λ (x : EngineState). record { state = x; past = r.past }) d
      ∙ ap reached_given c
      ∙ ap (λ (x : Engine). reached_given (reached_all l x contexts stats params block)) a
      ∙ ap (λ (x : Params). reached_given (reached_all l (engine_of s) contexts stats x block)) b
      ∙ unfold reached_by in ap (λ (k : ℕ). reached_by k l s contexts stats p block) (sym z ∙ q)

-- Which numbers the checks of the entry points give. Assumes nothing.
use Rattle.std.specs.Prelude.{ℕ, ◌≡◌, Bool, true, cond, ℤ, ltb}
use Rattle.std.proofs.Math.Path.{refl}
use mathlib.Core.List.{List, [], ◌∷◌}
use Rattle.cabac.specs.Numbers.{◌or_else◌}
use Rattle.hevc_residual.specs.declared.params.Params.{Params}
use Rattle.hevc_residual.specs.Numbers.{within_limits, parameter_refusal, statistic_refusal, statistics_refusal}
pub use Rattle.trees.specs.Among.{among, differ, same, Gives, gives_cond, gives_or, gives_payload, gives_state, gives_contexts, gives_ended, given}

module _ (ms : List ℕ) where
  pub gives_parameter : among ms 4 ≡ true → (p : Params) (block : List ℤ) → Gives ms (parameter_refusal p block)
  unfolding parameter_refusal
  gives_parameter h p block = gives_cond ms (within_limits p block) 0 4 refl h

  pub gives_statistics : among ms 3 ≡ true → (stats : List ℕ) → Gives ms (statistics_refusal stats)
  unfolding statistics_refusal statistic_refusal
  gives_statistics h [] = refl
  gives_statistics h (s ∷ ss) = gives_or ms (cond (ltb 84 s) 3 0) (statistics_refusal ss) (gives_cond ms (ltb 84 s) 3 0 h refl) (gives_statistics h ss)

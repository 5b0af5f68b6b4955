-- 4 and 3 of what is handed in with a block, in document 01's order.
use Rattle.std.specs.Prelude.{ℕ, cond, List, [], ◌∷◌, ℤ, ltb}
use Rattle.cabac.specs.Numbers.{◌or_else◌}
use Rattle.hevc_residual.specs.declared.params.Params.{Params}
use Rattle.hevc_residual.specs.Numbers.{parameter_refusal, statistics_refusal}

abbrev pub bins_checks : List ℕ → Params → List ℤ → ℕ
bins_checks stats p block = parameter_refusal p block or_else statistics_refusal stats

-- 3: a byte above the greatest one
unfoldable pub above_refusal : ℕ → List ℕ → ℕ
above_refusal most [] = 0
above_refusal most (b ∷ l) = cond (ltb most b) 3 0 or_else above_refusal most l

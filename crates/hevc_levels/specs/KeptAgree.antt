-- What is told of the levels stored so far is so of every answer.
use Rattle.std.specs.Prelude.{List, ℤ, Result, Ok, Err}
use Rattle.bins.specs.declared.state.Refusal.{Refusal}
use Rattle.hevc_residual.specs.declared.params.Params.{Params}
use Rattle.hevc_stored.specs.StoredAgree.{Keeps}
use Rattle.hevc_levels.specs.declared.levels.Leveled.{Leveled}

abbrev pub KeepsBehind : Params → Result Leveled Refusal → List ℤ → Type 0
KeepsBehind p (Ok v) levels = Keeps p v.stored levels
KeepsBehind p (Err n) levels = Unit {0}

-- What is within document 01's limits: parameters that are not refused by 4, statistics that are not refused by 3.
use Rattle.std.specs.Prelude.{ℕ, ◌≤◌, List, get_or}
use Rattle.hevc_residual.specs.declared.params.Params.{Params}

pub record Accepted (p : Params) : Type 0 where
  pub least : 2 ≤ p.log2
  pub most : p.log2 ≤ 5
  pub scan : p.scan ≤ 2
  pub depth : p.depth ≤ 16

abbrev pub Statistics : List ℕ → Type 0
Statistics stats = (i : ℕ) → get_or stats i 0 ≤ 84

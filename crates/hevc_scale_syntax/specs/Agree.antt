-- What the code's answers say of the scale's tree.
use Rattle.std.specs.Prelude.{ℕ, ◌≡◌, List, ℤ, pos, Result, Ok, Err}
use Rattle.bins.specs.declared.state.Refusal.{Refusal}
use Rattle.bins.specs.Syn.{Out}
use Rattle.bins.specs.Sources.{Cursor, cursor}
use Rattle.bins.specs.Laws.{RefusedBy}
use Rattle.hevc_residual.specs.Wanted.{Wanted}
use Rattle.hevc_scale_syntax.specs.declared.syntax.Scaled.{Scaled}

-- a reader wants nothing
abbrev pub nothing : Wanted → ℤ
nothing w = pos 0

abbrev pub SaysScale : Result Scaled Refusal → List ℕ → Out Cursor ℤ → Type 0
SaysScale (Ok t) cs o = o ≡ Out.ok t.scale (cursor t.next cs)
SaysScale (Err n) cs o = RefusedBy n o

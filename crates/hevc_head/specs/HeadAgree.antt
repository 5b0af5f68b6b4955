-- What the head's answer says.
use Rattle.std.specs.Prelude.{ℕ, ◌≡◌, List, Result, Ok, Err}
use Rattle.bins.specs.declared.state.Refusal.{Refusal}
use Rattle.bins.specs.Syn.{Out}
use Rattle.bins.specs.Sources.{Cursor, cursor}
use Rattle.bins.specs.Laws.{RefusedBy}
use Rattle.hevc_residual.specs.Head as syntax
use Rattle.hevc_head.specs.declared.head.Headed.{Headed}
use Rattle.hevc_head_rules.specs.HeadOf.{head_of}

abbrev pub SaysHead : Result Headed Refusal → List ℕ → Out Cursor syntax.Head → Type 0
SaysHead (Ok h) cs o = o ≡ Out.ok (head_of h.head) (cursor h.next cs)
SaysHead (Err n) cs o = RefusedBy n o

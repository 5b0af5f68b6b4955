-- What a remainder's answer says: a value so great that no level in range has it stands as the greatest that is told apart.
use Rattle.std.specs.Prelude.{ℕ, min, ◌≡◌, List, Ok, Err}
use Rattle.bins.specs.Syn.{Out}
use Rattle.bins.specs.Sources.{Step, Cursor, cursor}
use Rattle.bins.specs.Laws.{RefusedBy}
use Rattle.hevc_magnitudes.specs.Most.{most}

abbrev pub SaysCapped : Step → List ℕ → Out Cursor ℕ → Type 0
SaysCapped (Ok t) cs o = (u : ℕ) × (t.value ≡ min u most) × (o ≡ Out.ok u (cursor t.next cs))
SaysCapped (Err n) cs o = RefusedBy n o

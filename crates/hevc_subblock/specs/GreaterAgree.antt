-- What the answer of the greater1 loop says.
use Rattle.std.specs.Prelude.{ℕ, ◌^◌, ◌≤◌, ◌<◌, ◌≡◌, List, Result, Ok, Err}
use Rattle.bins.specs.declared.state.Refusal.{Refusal}
use Rattle.bins.specs.Syn.{Out}
use Rattle.bins.specs.Sources.{Cursor, cursor}
use Rattle.bins.specs.Laws.{RefusedBy}
use Rattle.hevc_residual.specs.SubBlock.{Greater1}
use Rattle.hevc_subblock.specs.declared.greater.Greater.{Greater}
use Rattle.hevc_places.specs.Packing.{unmask}

abbrev pub SaysGreater : ℕ → Result Greater Refusal → List ℕ → Out Cursor Greater1 → Type 0
SaysGreater n (Ok g) cs o =
    (g.mask < 2 ^ n) × (g.carry ≤ 3) × (o ≡ Out.ok (record { bins = unmask g.mask n; greater1_ctx = g.carry }) (cursor g.next cs))
SaysGreater n (Err m) cs o = RefusedBy m o

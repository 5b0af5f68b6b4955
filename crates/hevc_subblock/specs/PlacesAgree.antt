-- What the answer of the significance loop says.
use Rattle.std.specs.Prelude.{ℕ, ◌≡◌, List, Result, Ok, Err}
use Rattle.bins.specs.declared.state.Refusal.{Refusal}
use Rattle.bins.specs.Syn.{Out}
use Rattle.bins.specs.Sources.{Cursor, cursor}
use Rattle.bins.specs.Laws.{RefusedBy}
use Rattle.hevc_subblock.specs.declared.places.Placed.{Placed}
use Rattle.hevc_places.specs.Packing.{Packs, unpacked}

abbrev pub SaysPlaces : Result Placed Refusal → List ℕ → Out Cursor (List ℕ) → Type 0
SaysPlaces (Ok v) cs o = Packs v.places × (o ≡ Out.ok (unpacked v.places) (cursor v.next cs))
SaysPlaces (Err n) cs o = RefusedBy n o

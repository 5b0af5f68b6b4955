-- Places packed into a number, four bits each, and bins into a mask, a bit each: the first in the lowest.
use Rattle.std.specs.Prelude.{ℕ, zero, suc, ◌/◌, ◌%◌, ◌^◌, ◌≤◌, ◌<◌, List, [], ◌∷◌, Bool}
use Rattle.bins.specs.Readers.{odd}
use Rattle.hevc_places.specs.declared.places.Places.{Places}

unfoldable pub unpack : ℕ → ℕ → List ℕ
unpack v zero = []
unpack v (suc n) = (v % 16) ∷ unpack (v / 16) n

abbrev pub unpacked : Places → List ℕ
unpacked s = unpack s.packed s.count

pub record Packs (s : Places) : Type 0 where
  pub small : s.packed < 16 ^ s.count
  pub few : s.count ≤ 16

unfoldable pub unmask : ℕ → ℕ → List Bool
unmask m zero = []
unmask m (suc n) = odd m ∷ unmask (m / 2) n

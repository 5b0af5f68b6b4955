-- What the code writes into: bytes in a lent room, and below them a register whose low has bits of its own and one more for a carry.
use Rattle.std.specs.Prelude.{ℕ, zero, suc, ◌+◌, ◌-◌, ◌*◌, ◌/◌, ◌%◌, ◌^◌, ◌≤◌, ◌<◌, ◌≡◌, Bool, true, false, cond, List, [], ◌∷◌, length, get_or, set, ltb, leb}
use Rattle.packing.specs.Pack.{Enc}
use Rattle.packing.specs.FollowLaws.{Wide}
use Rattle.packer_steps.specs.declared.coder.Coder.{Coder}

-- ---- the room
-- one more in the number that the first n bytes make: a byte of 255 is 0, and the carry goes on before it
unfoldable pub carried : ℕ → List ℕ → List ℕ
carried zero room = room
carried (suc k) room = cond (ltb (get_or room k 0) 255) (set room k (get_or room k 0 + 1)) (carried k (set room k 0))

-- nine bits at a place: a byte, and the carry into those before it. Where the room has no such place it stays
unfoldable pub placed : ℕ → ℕ → List ℕ → List ℕ
unfolding carried
placed nine at room =
    cond (ltb at (length room)) (cond (leb 256 nine) (carried at (set room at (nine % 256))) (set room at (nine % 256))) room

-- only counted, or placed
abbrev pub inked : Bool → ℕ → ℕ → List ℕ → List ℕ
inked wr nine at room = cond wr (placed nine at room) room

-- ---- the register
-- as an interval, the carry's bit among its bits
abbrev pub register_of : Coder → Enc
register_of c = record { low = c.low; range = c.range; n = c.bits + 1 }

-- between two entries
pub record Steady (c : Coder) : Type 0 where
  pub wide : Wide (register_of c)
  pub nine : 9 ≤ c.bits
  pub few : c.bits ≤ 16
  pub short : c.at + 3 ≤ 4294967295

-- behind an entry
pub record Grown (c : Coder) : Type 0 where
  pub wide : Wide (register_of c)
  pub nine : 9 ≤ c.bits
  pub few : c.bits ≤ 23
  pub short : c.at + 3 ≤ 4294967295

-- the register without its highest byte, which goes to the room
abbrev pub spared : Coder → Coder
spared c = record { low = c.low % 2 ^ (c.bits - 8); range = c.range; bits = c.bits - 8; at = c.at + 1 }

pub record PutOut (wr : Bool) (room : List ℕ) (c : Coder) (room' : List ℕ) (r : Coder) : Type 0 where
  pub coder : r ≡ cond (ltb c.bits 17) c (spared c)
  pub bytes : room' ≡ cond (ltb c.bits 17) room (inked wr (c.low / 2 ^ (c.bits - 8)) c.at room)

-- ---- the flush: the greater odd number of the last two that the interval has, its bits filled up to two bytes
abbrev pub last_two : Coder → ℕ
last_two c = let v = c.low + (c.range - 2) in (v + (1 - v % 2)) * 2 ^ (16 - c.bits)

abbrev pub last_of : Bool → Coder → List ℕ → List ℕ
last_of wr c room = inked wr (last_two c % 256) (c.at + 1) (inked wr (last_two c / 256) c.at room)

-- What an entry point that packs a list answers and leaves in the room, for any syntax (request (i)). Its checks come first and give a number; a list that
-- the syntax does not read to its end is 13; a payload longer than the room is 12. Contexts are read only: the reader is then started with the same ones.
use Rattle.std.specs.Prelude.{ℕ, zero, suc, List, [], ◌∷◌, ◌++◌, Bool, true, false, length, drop, ltb}
use Rattle.bins.specs.Syn.{Syn, Out, run, by_list}
use Rattle.cabac.specs.Numbers.{Answer, accepted, refused}
use Rattle.packing.specs.Pack.{Writing, entries_of, packed, packed_from, payload_of}

-- accepted with the length of the payload, which stands at the front of the room
pub record BinsPacked : Type 0 where
  pub answer : Answer ℕ
  pub room : List ℕ

abbrev pub not_packed : ℕ → List ℕ → BinsPacked
not_packed n room = record { answer = refused n; room = room }

abbrev pub payload_from : List ℕ → List ℕ → List ℕ
payload_from contexts bins = payload_of (packed_from contexts bins).enc

-- a payload, by whether it is longer than the room: 12
unfoldable pub pack_into_by : Bool → List ℕ → List ℕ → BinsPacked
pack_into_by true l room = not_packed 12 room
pack_into_by false l room = record { answer = accepted (length l); room = l ++ drop (length l) room }

unfoldable pub pack_into : List ℕ → List ℕ → List ℕ → BinsPacked
unfolding entries_of packed payload_of pack_into_by
pack_into contexts bins room = let l = payload_from contexts bins in pack_into_by (ltb (length room) (length l)) l room

-- a list that the syntax reads to its end is packed; any other is 13
unfoldable pub pack_list : {A : Type 0} → List ℕ → List ℕ → List ℕ → Out (List ℕ) A → BinsPacked
unfolding pack_into
pack_list contexts bins room (Out.ok a []) = pack_into contexts bins room
pack_list contexts bins room (Out.ok a (x ∷ l)) = not_packed 13 room
pack_list contexts bins room (Out.no n l) = not_packed 13 room

-- behind the checks, which gave the number n
unfoldable pub pack_tree : {B A : Type 0} → ℕ → Syn B A → List ℕ → List ℕ → List ℕ → BinsPacked
unfolding pack_list
pack_tree zero t contexts bins room = pack_list contexts bins room (run by_list t bins)
pack_tree (suc n) t contexts bins room = not_packed (suc n) room

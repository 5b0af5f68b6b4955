use Rattle.hevc_places.specs.PlacesAgree.{number_at}
use Rattle.hevc_subblock.specs.PlacesLaws.{Placing}
use Rattle.hevc_subblock.proofs.places.significance.Given as goal

-- `significance` meets its contract. Assumes nothing.
abbrev pub invariant-loop-k : goal.invariant-loop-k
invariant-loop-k l = Placing l.list l.bytes (number_at l.numbers) l.infer l.below l.initial.s l.initial.y l.initial.contexts l.y l.contexts l.k l.s

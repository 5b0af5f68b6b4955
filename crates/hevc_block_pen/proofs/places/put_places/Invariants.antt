use Rattle.hevc_places.specs.PlacesAgree.{number_at}
use Rattle.pen.specs.Sheet.{sheet}
use Rattle.hevc_block_pen.specs.PlacesPuts.{Putting}
use Rattle.hevc_block_pen.proofs.places.put_places.Given as goal

-- `put_places` meets its contract. Assumes nothing.
abbrev pub invariant-loop-k : goal.invariant-loop-k
invariant-loop-k l = Putting l.levels (number_at l.numbers) l.infer l.below l.initial.s
    (sheet l.initial.room l.initial.y) l.k l.s (sheet l.room l.y)

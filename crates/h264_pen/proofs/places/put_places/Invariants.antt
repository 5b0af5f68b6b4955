use Rattle.h264_pen.specs.PlacePuts.{Placing}
use Rattle.pen.specs.Sheet.{sheet}
use Rattle.h264_pen.proofs.places.put_places.Given as goal

-- `put_places` meets its contract. Assumes nothing.
abbrev pub invariant-loop-k : goal.invariant-loop-k
invariant-loop-k l = Placing l.levels l.last (sheet l.initial.room l.initial.y) l.k (sheet l.room l.y)

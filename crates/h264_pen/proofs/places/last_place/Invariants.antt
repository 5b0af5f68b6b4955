use Rattle.h264_pen.specs.PlacePuts.{Seeking}
use Rattle.h264_pen.proofs.places.last_place.Given as goal

-- `last_place` meets its contract. Assumes nothing.
abbrev pub invariant-loop-k : goal.invariant-loop-k
invariant-loop-k l = Seeking l.levels l.k

use Rattle.h264_places.specs.PlaceCode.{Marking}
use Rattle.h264_places.proofs.places.places.Given as goal

abbrev pub invariant-loop-k : goal.invariant-loop-k
invariant-loop-k l = Marking l.list l.bytes l.initial.y l.initial.contexts l.y l.contexts l.marks l.k

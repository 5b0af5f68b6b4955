use native.Mathlib.Omega.{arith}
use Rattle.show.proofs.h264.laid.Goals as goal

pub list_place-requires : goal.list_place-requires
list_place-requires c = (omega arith, omega arith)

pub offset_bounds-levels-list_place : goal.offset_bounds-levels-list_place
offset_bounds-levels-list_place c = omega (arith, c.list_place.ensures.1)

pub bounds-levels-list_place : goal.bounds-levels-list_place
bounds-levels-list_place c = omega (arith, c.list_place.ensures.1)

pub bounds-block-i : goal.bounds-block-i
bounds-block-i c = omega arith

pub loop-i-preserved : goal.loop-i-preserved
loop-i-preserved c = omega arith

use Rattle.hevc_places.specs.Packing.{unpacked}
use Rattle.pen.specs.Sheet.{sheet}
use Rattle.hevc_levels_pen.specs.GreaterPuts.{Putting}
use Rattle.hevc_levels_pen.proofs.greater.put_greater1.Given as goal

-- `put_greater1` meets its contract. Assumes nothing.
abbrev pub invariant-loop-j : goal.invariant-loop-j
invariant-loop-j l = Putting l.levels (unpacked l.s) l.base l.n (sheet l.initial.room l.initial.y) l.mask l.carry l.j (sheet l.room l.y)

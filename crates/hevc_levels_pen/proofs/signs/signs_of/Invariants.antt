use Rattle.hevc_places.specs.Packing.{unpacked}
use Rattle.hevc_levels_pen.specs.SignsPuts.{Signing}
use Rattle.hevc_levels_pen.proofs.signs.signs_of.Given as goal

-- `signs_of` meets its contract. Assumes nothing.
abbrev pub invariant-loop-j : goal.invariant-loop-j
invariant-loop-j l = Signing l.levels (unpacked l.s) l.n l.v l.j

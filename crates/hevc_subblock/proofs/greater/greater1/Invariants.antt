use Rattle.hevc_subblock.specs.GreaterLaws.{Marking}
use Rattle.hevc_subblock.proofs.greater.greater1.Given as goal

-- `greater1` meets its contract. Assumes nothing.
abbrev pub invariant-loop-j : goal.invariant-loop-j
invariant-loop-j l = Marking l.list l.bytes l.base l.n l.initial.y l.initial.contexts l.y l.contexts l.mask l.carry l.j

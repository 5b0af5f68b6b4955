use Rattle.h264_levels.specs.LevelCode.{Leveling}
use Rattle.h264_levels.proofs.levels.levels.Given as goal

abbrev pub invariant-loop-k : goal.invariant-loop-k
invariant-loop-k l = Leveling l.list l.bytes l.marks l.initial.y l.initial.contexts l.initial.block l.y l.contexts l.block l.k l.ones l.bigs

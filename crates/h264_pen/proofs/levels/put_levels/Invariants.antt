use Rattle.h264_pen.specs.LevelPuts.{Leveling}
use Rattle.pen.specs.Sheet.{sheet}
use Rattle.h264_pen.proofs.levels.put_levels.Given as goal

-- `put_levels` meets its contract. Assumes nothing.
abbrev pub invariant-loop-k : goal.invariant-loop-k
invariant-loop-k l = Leveling l.levels (sheet l.initial.room l.initial.y) l.k l.ones l.bigs (sheet l.room l.y)

use Rattle.pen.specs.Sheet.{sheet}
use Rattle.hevc_levels_pen.specs.LevelsPuts.{Leveling}
use Rattle.hevc_levels_pen.proofs.levels.put_levels.Given as goal

-- `put_levels` meets its contract. Assumes nothing.
abbrev pub invariant-loop-g : goal.invariant-loop-g
invariant-loop-g l = Leveling l.p l.levels l.greater2 l.initial.g (sheet l.initial.room l.initial.y) l.g (sheet l.room l.y)

abbrev pub decreases-loop-g : goal.decreases-loop-g
decreases-loop-g l = l.g.count

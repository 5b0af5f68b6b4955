use Rattle.h264_levels.specs.LevelCode.{range_minus, range_plus}
use Rattle.h264_levels.proofs.levels.in_range.Goals as goal

pub returns-then-negative : goal.returns-then-negative
returns-then-negative c = let a = c.args in range_minus a.negative a.m c.if-negative.true

pub returns-else-negative : goal.returns-else-negative
returns-else-negative c = let a = c.args in range_plus a.negative a.m c.if-negative.false

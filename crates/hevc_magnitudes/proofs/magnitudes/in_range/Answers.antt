use Rattle.hevc_magnitudes.specs.MagnitudeLaws.{in_range_negative, in_range_positive}
use Rattle.hevc_magnitudes.proofs.magnitudes.in_range.Goals as goal

pub returns-then-negative : goal.returns-then-negative
returns-then-negative c = let a = c.args in in_range_negative a.t a.m c.requires a.negative c.if-negative.true

pub returns-else-negative : goal.returns-else-negative
returns-else-negative c = let a = c.args in in_range_positive a.t a.m c.requires a.negative c.if-negative.false

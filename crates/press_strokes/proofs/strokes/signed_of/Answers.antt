use Rattle.level_sizes.specs.SignLaws.{minus_fits, minus_is, plus_is}
use Rattle.press_strokes.proofs.strokes.signed_of.Goals as goal

pub overflow_sub-result : goal.overflow_sub-result
overflow_sub-result c = minus_fits c.args.m c.requires

pub returns-then-negative : goal.returns-then-negative
returns-then-negative c = let a = c.args in minus_is a.negative a.m c.if-negative.true c.requires

pub returns : goal.returns
returns c = let a = c.args in plus_is a.negative a.m c.if-negative.false c.requires

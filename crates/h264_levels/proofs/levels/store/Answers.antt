use Rattle.level_sizes.specs.SignLaws.{minus_fits, minus_is, plus_is}
use lib.ListN.{set}
use mathlib.Core.Path.{ap}
use Rattle.h264_levels.proofs.levels.store.Goals as goal

pub overflow_sub-block : goal.overflow_sub-block
overflow_sub-block c = minus_fits c.args.m c.requires.1

pub returns-then-negative : goal.returns-then-negative
returns-then-negative c = let a = c.args in ap (λ v. set a.block.now a.at v) (minus_is a.negative a.m c.if-negative.true c.requires.1)

pub returns-else-negative : goal.returns-else-negative
returns-else-negative c = let a = c.args in ap (λ v. set a.block.now a.at v) (plus_is a.negative a.m c.if-negative.false c.requires.1)

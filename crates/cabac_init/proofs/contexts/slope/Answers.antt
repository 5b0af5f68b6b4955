use native.Mathlib.Omega.{arith}
use Rattle.cabac.specs.Contexts.{slope_raised}
use Rattle.cabac.specs.EntryLaws.{slope_small}
use mathlib.Core.Path.{refl}
use borrow.Author.Rules.{rules}
use Rattle.cabac_init.proofs.contexts.slope.Goals as goal

pub overflow_mul-result-2 : goal.overflow_mul-result-2
overflow_mul-result-2 c = omega (arith, slope_small c.args.v c.args.q (search rules) (search rules))

pub overflow_add-result : goal.overflow_add-result
overflow_add-result c = omega (arith, slope_small c.args.v c.args.q (search rules) (search rules))

pub returns : goal.returns
unfolding slope_raised
returns c = refl

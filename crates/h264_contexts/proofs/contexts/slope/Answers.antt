use native.Mathlib.Omega.{arith}
use Rattle.h264_contexts.specs.PairLaws.{slope_small}
use mathlib.Core.Path.{refl}
use Rattle.h264_contexts.proofs.contexts.slope.Goals as goal

-- `slope` meets its contract. Assumes nothing.
pub overflow_mul-result : goal.overflow_mul-result
overflow_mul-result c = omega (arith, slope_small c.args.m c.args.q c.requires.0 c.requires.1)

pub overflow_add-result : goal.overflow_add-result
overflow_add-result c = omega (arith, slope_small c.args.m c.args.q c.requires.0 c.requires.1)

pub returns : goal.returns
returns c = (refl, omega (arith, slope_small c.args.m c.args.q c.requires.0 c.requires.1))

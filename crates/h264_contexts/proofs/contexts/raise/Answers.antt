use native.Mathlib.Omega.{arith}
use Rattle.h264_contexts.specs.PairLaws.{raise_fits, raise_plain, raise_is, raised_below}
use Rattle.h264_contexts.proofs.contexts.raise.Goals as goal

pub overflow_add-result : goal.overflow_add-result
overflow_add-result c = raise_fits c.args.v c.ranges.v c.requires

pub overflow_cast-result : goal.overflow_cast-result
overflow_cast-result c = (raise_plain c.args.v c.ranges.v c.requires, record { fits = omega (arith, raise_is c.args.v c.ranges.v c.requires, raised_below c.args.v c.requires) })

pub returns : goal.returns
returns c = (raise_is c.args.v c.ranges.v c.requires, omega (arith, raise_is c.args.v c.ranges.v c.requires, raised_below c.args.v c.requires))

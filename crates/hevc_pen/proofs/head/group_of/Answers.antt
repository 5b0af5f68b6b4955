use native.Mathlib.Omega.{arith}
use mathlib.Core.Path.{refl}
use Rattle.hevc_pen.specs.HeadLaws.{groups, group_small}
use Rattle.hevc_pen.proofs.head.group_of.Goals as goal

pub overflow_cast-result-2 : goal.overflow_cast-result-2
unfolding groups
overflow_cast-result-2 c = omega (arith, group_small c.args.v c.requires)

pub returns : goal.returns
unfolding groups
returns c = refl

use native.Mathlib.Omega.{arith}
use mathlib.Core.Path.{refl}
use Rattle.hevc_residual.specs.Head.{least_of}
use Rattle.hevc_head_rules.specs.HeadRules.{least_few}
use Rattle.hevc_head_rules.proofs.head.least.Goals as goal

pub overflow_cast-result-2 : goal.overflow_cast-result-2
unfolding least_of
overflow_cast-result-2 c = omega (arith, least_few c.args.g c.requires)

pub returns : goal.returns
unfolding least_of
returns c = refl

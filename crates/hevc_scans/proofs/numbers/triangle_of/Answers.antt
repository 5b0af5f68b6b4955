use native.Mathlib.Omega.{arith}
use Rattle.hevc_scans.specs.NumberLaws.{triangle_small}
use Rattle.hevc_scans.proofs.numbers.triangle_of.Goals as goal

pub overflow_mul-result : goal.overflow_mul-result
overflow_mul-result c = omega (arith, triangle_small c.args.n c.requires)

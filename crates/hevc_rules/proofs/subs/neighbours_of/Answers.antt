use native.Mathlib.Omega.{arith}
use Prim.Native.Nat.{◌+◌}
use Rattle.hevc_rules.specs.SubsAgree.{coded_at}
use Rattle.hevc_rules.specs.SmallLaws.{bits_most}
use Rattle.hevc_rules.proofs.subs.neighbours_of.Goals as goal

pub overflow_mul-result : goal.overflow_mul-result
overflow_mul-result c = let a = c.args in omega (arith, c.is_coded-2.ensures, bits_most (coded_at a.coded.now a.w a.xs (a.ys + 1)))

pub overflow_add-result : goal.overflow_add-result
overflow_add-result c =
    let a = c.args in
    omega (arith, c.is_coded-2.ensures, c.is_coded.ensures, bits_most (coded_at a.coded.now a.w a.xs (a.ys + 1)), bits_most (coded_at a.coded.now a.w (a.xs + 1) a.ys))

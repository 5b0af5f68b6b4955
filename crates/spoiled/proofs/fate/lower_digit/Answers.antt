use native.Mathlib.Omega.{arith}
use Rattle.spoiled.specs.CodeLaws.{upper_small, lower_upper, lower_other}
use Rattle.spoiled.proofs.fate.lower_digit.Goals as goal

pub overflow_add-result : goal.overflow_add-result
overflow_add-result c = omega (arith, upper_small c.args.b _ c.is_upper.ensures c.if-is_upper.true)

pub returns-then-is_upper : goal.returns-then-is_upper
returns-then-is_upper c = lower_upper c.args.b _ c.is_upper.ensures c.if-is_upper.true

pub returns : goal.returns
returns c = lower_other c.args.b _ c.is_upper.ensures c.if-is_upper.false

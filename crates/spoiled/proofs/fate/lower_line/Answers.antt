use native.Mathlib.Omega.{arith}
use Rattle.spoiled.specs.CodeLaws.{lowering_begun, lowering_more, lowering_done}
use Rattle.spoiled.proofs.fate.lower_line.Goals as goal

pub loop-i-init : goal.loop-i-init
loop-i-init c = lowering_begun c.args.line.now

pub overflow_add-k : goal.overflow_add-k
overflow_add-k c = omega (arith, c.loop-i.invariant.few)

pub loop-i-preserved : goal.loop-i-preserved
loop-i-preserved c = lowering_more _ _ _ _ c.loop-i.invariant (omega arith) c.turned-k.result c.lower_digit.result c.turned-k.ensures.0 c.turned-k.ensures.1 c.lower_digit.ensures

pub returns : goal.returns
returns c = let a = c.args in lowering_done _ _ _ c.loop-i.i a.n c.loop-i.invariant (omega arith)

use native.Mathlib.Omega.{arith}
use Rattle.spoiled.specs.CodeLaws.{turned_upper, turned_other}
use Rattle.spoiled.proofs.fate.turned.Goals as goal

pub returns-then-is_upper : goal.returns-then-is_upper
returns-then-is_upper c = (turned_upper c.args.b _ c.is_upper.ensures c.if-is_upper.true, omega arith)

pub returns : goal.returns
returns c = (turned_other c.args.b _ c.is_upper.ensures c.if-is_upper.false, omega arith)

use Rattle.spoiled.specs.CodeLaws.{count_dropped, count_lowered, count_kept}
use native.Mathlib.Omega.{arith}
use Rattle.spoiled_words.proofs.tally.count_line.Goals as goal

pub returns-then-f-ne0 : goal.returns-then-f-ne0
returns-then-f-ne0 c = let a = c.args in (count_dropped a.t a.f.number a.f.turned c.if-f-ne0.true, omega arith)

pub returns-then-f-ne0-2 : goal.returns-then-f-ne0-2
returns-then-f-ne0-2 c = let a = c.args in (count_lowered a.t a.f.number a.f.turned c.if-f-ne0.false c.if-f-ne0-2.true, omega arith)

pub returns : goal.returns
returns c = let a = c.args in (count_kept a.t a.f.number a.f.turned c.if-f-ne0.false c.if-f-ne0-2.false, omega arith)

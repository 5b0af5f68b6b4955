use Rattle.spoiled.specs.CodeLaws.{Lowering}
use Rattle.spoiled.proofs.fate.lower_line.Given as goal

-- `lower_line` meets its contract. Assumes nothing.
abbrev pub invariant-loop-i : goal.invariant-loop-i
invariant-loop-i l = Lowering l.initial.line l.line l.k l.i

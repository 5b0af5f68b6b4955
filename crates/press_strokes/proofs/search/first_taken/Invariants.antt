use Rattle.press_strokes.specs.Advice.{is_taken}
use Rattle.press_strokes.specs.FirstLaws.{NoneBelow}
use Rattle.press_strokes.proofs.search.first_taken.Given as goal

-- `first_taken` meets its contract. Assumes nothing.
abbrev pub invariant-loop-c : goal.invariant-loop-c
invariant-loop-c l = NoneBelow (is_taken l.p l.levels) l.c

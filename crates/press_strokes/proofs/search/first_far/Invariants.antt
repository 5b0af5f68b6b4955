use Rattle.press_strokes.specs.Advice.{is_far_by}
use Rattle.press_strokes.specs.FirstLaws.{NoneBelow}
use Rattle.press_strokes.proofs.search.first_far.Given as goal

-- `first_far` meets its contract. Assumes nothing.
abbrev pub invariant-loop-i : goal.invariant-loop-i
invariant-loop-i l = NoneBelow (is_far_by l.t l.levels) l.i

use Rattle.press_strokes.specs.Advice.{is_off_in}
use Rattle.press_strokes.specs.FirstLaws.{NoneBelow}
use Rattle.press_strokes.proofs.search.first_off.Given as goal

-- `first_off` meets its contract. Assumes nothing.
abbrev pub invariant-loop-i : goal.invariant-loop-i
invariant-loop-i l = NoneBelow (is_off_in l.p l.block) l.i

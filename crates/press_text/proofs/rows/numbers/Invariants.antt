use Prim.Native.Nat.{◌-◌}
use Rattle.press_text.proofs.rows.numbers.Given as goal

-- `numbers` meets its contract. Assumes nothing.
abbrev pub invariant-loop-at : goal.invariant-loop-at
invariant-loop-at l = Unit {0}

abbrev pub decreases-loop-at : goal.decreases-loop-at
decreases-loop-at l = l.most - l.n

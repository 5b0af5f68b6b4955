use Prim.Native.Nat.{◌≤◌, ◌-◌}
use Rattle.show_grid.proofs.grid.levels.Given as goal

-- `levels` meets its contract. Assumes nothing.
abbrev pub invariant-loop-from : goal.invariant-loop-from
invariant-loop-from g l = (l.n ≤ 32) × (1 ≤ l.step) × (l.step ≤ 32)

abbrev pub decreases-loop-from : goal.decreases-loop-from
decreases-loop-from g l = l.n - l.from

use Prim.Native.Nat.{◌≤◌, ◌+◌, ◌-◌}
use lib.ListN.{length}
use Rattle.show.proofs.frames.Given as goal

-- `frames` meets its contract. Assumes nothing.
abbrev pub invariant-loop-from : goal.invariant-loop-from
invariant-loop-from g l = l.from ≤ length l.text + 1

abbrev pub decreases-loop-from : goal.decreases-loop-from
decreases-loop-from g l = length l.text + 1 - l.from

use Prim.Native.Nat.{◌+◌, ◌*◌, ◌≤◌}
use Rattle.book.proofs.turns.Given as goal

-- `turns` meets its contract. Assumes nothing.
abbrev pub invariant-loop-left : goal.invariant-loop-left
invariant-loop-left g l = (l.p.held ≤ 8469) × (1 ≤ l.p.number) × (l.p.number + 4096 * l.left ≤ 9223372036854775809)

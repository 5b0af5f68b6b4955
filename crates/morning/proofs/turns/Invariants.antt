use Rattle.std.proofs.Common.{◌+◌, ◌*◌, ◌≤◌}
use Rattle.morning.proofs.turns.Given as goal

-- `turns` meets its contract. Assumes nothing.
abbrev pub invariant-loop-turn : goal.invariant-loop-turn
invariant-loop-turn g l = (l.s.line.held ≤ 8469) × (1 ≤ l.s.line.number) × (l.s.line.number ≤ 1 + 4096 * l._turn)

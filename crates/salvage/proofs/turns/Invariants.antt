use Rattle.std.proofs.Common.{◌+◌, ◌*◌, ◌≤◌, ◌<◌}
use Rattle.spoiled.specs.Salvage.{all}
use Rattle.salvage.proofs.turns.Given as goal

-- `turns` meets its contract. Assumes nothing.
abbrev pub invariant-loop-turn : goal.invariant-loop-turn
invariant-loop-turn g l = (l.p.held ≤ 8469) × (l.p.number ≤ 1 + 4096 * l._turn) × (all l.t < l.p.number)

use Prim.Native.Nat.{◌+◌}
use mathlib.Core.Path.{◌≡◌}
use Rattle.hevc_residual.specs.Scan.{spot}
use Rattle.hevc_levels.specs.LevelLaws.{Leveling}
use Rattle.hevc_stored.specs.StoredAgree.{Keeps}
use Rattle.hevc_levels.proofs.levels.read_levels.Given as goal

-- `read_levels` meets its contract. Assumes nothing.
abbrev pub invariant-loop-i : goal.invariant-loop-i
invariant-loop-i l = Leveling l.p (spot l.xs l.ys) l.list l.bytes l.greater2 l.signs l.initial.g l.initial.y l.initial.block l.g l.y l.block × Keeps l.p l.k l.block × (l.g.count + l._i ≡ l.initial.g.count)

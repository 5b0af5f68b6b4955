use Prim.Native.Nat.{◌-◌}
use mathlib.Core.Path.{◌≡◌}
use Rattle.differs.specs.Differ.{first_from}
use Rattle.differs.proofs.payloads.first_difference.Given as goal

-- `first_difference` meets its contract: all bits passed are the same. Assumes nothing.
abbrev pub invariant-loop-i : goal.invariant-loop-i
invariant-loop-i l = first_from l.a l.b l.i (l.n - l.i) ≡ first_from l.a l.b 0 l.n

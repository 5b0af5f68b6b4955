use Prim.Native.Nat.{◌≤◌}
use mathlib.Core.Path.{◌≡◌}
use lib.ListN.{length, drop}
use Rattle.text_fields.specs.Fields.{from_field}
use Rattle.text_fields.proofs.fields.field_start.Given as goal

-- `field_start` meets its contract. Assumes nothing.
abbrev pub invariant-loop-left : goal.invariant-loop-left
invariant-loop-left l = (l.from ≤ length l.s) × (from_field (drop l.from l.s) l._left ≡ from_field l.s l.k)

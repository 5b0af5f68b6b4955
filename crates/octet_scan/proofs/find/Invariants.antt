use Rattle.std.proofs.Common.{◌≡◌, ◌+◌}
use Rattle.octet_scan.specs.Octets.{index_of, slice}
use Rattle.octet_scan.proofs.find.Given as goal

abbrev pub invariant-loop-i : goal.invariant-loop-i
invariant-loop-i l =
    l.i + index_of l.b (slice l.i l.to l.s) ≡ l.from + index_of l.b (slice l.from l.to l.s)

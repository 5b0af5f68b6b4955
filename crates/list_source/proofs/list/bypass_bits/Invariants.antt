use Rattle.bins.specs.StepLaws.{Entries}
use Rattle.list_source.proofs.list.bypass_bits.Given as goal

-- `bypass_bits` meets its contract. Assumes nothing.
abbrev pub invariant-loop-i : goal.invariant-loop-i
invariant-loop-i l = Entries l.bytes l.n l._i l.v l.initial.y l.y

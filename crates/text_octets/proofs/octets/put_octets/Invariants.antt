use Rattle.text_fields.specs.OctetsLaws.{Writing}
use Rattle.text_octets.proofs.octets.put_octets.Given as goal

-- `put_octets` meets its contract. Assumes nothing.
abbrev pub invariant-loop-i : goal.invariant-loop-i
invariant-loop-i l = Writing l.s l.initial.out l.out l.i

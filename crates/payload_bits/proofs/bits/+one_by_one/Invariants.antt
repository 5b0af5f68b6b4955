use Rattle.payload_bits.proofs.bits.+one_by_one.Given as goal

-- `one_by_one` ends, since the count falls.
abbrev pub decreases-one_by_one : goal.decreases-one_by_one
decreases-one_by_one l = l.c

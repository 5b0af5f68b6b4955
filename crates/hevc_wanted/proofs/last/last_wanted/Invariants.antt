use Rattle.hevc_wanted.specs.LastLaws.{Looking}
use Rattle.hevc_wanted.proofs.last.last_wanted.Given as goal

-- `last_wanted` meets its contract. Assumes nothing.
abbrev pub invariant-loop-i : goal.invariant-loop-i
invariant-loop-i l = Looking l.p l.block l.i

use Rattle.hevc_wanted.specs.ShownLaws.{Summed}
use Rattle.hevc_wanted.proofs.sub.sum_of.Given as goal

-- `sum_of` meets its contract. Assumes nothing.
abbrev pub invariant-loop-level : goal.invariant-loop-level
invariant-loop-level l = Summed l.levels l.sum l.level-index

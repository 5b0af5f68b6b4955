use Rattle.hevc_residual.specs.Scan.{spot}
use Rattle.hevc_wanted.specs.ShownLaws.{Taken, level_in}
use Rattle.hevc_wanted.proofs.sub.levels_of.Given as goal

-- `levels_of` meets its contract. Assumes nothing.
abbrev pub invariant-loop-k : goal.invariant-loop-k
invariant-loop-k l = Taken (level_in l.p (spot l.xs l.ys) l.block) l.level-items l.k

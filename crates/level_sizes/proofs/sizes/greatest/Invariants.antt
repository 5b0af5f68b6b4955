use Prim.Native.Nat.{max}
use mathlib.Core.Path.{◌≡◌}
use lib.ListN.{drop}
use Rattle.trees.specs.Levels.{greatest_of}
use Rattle.level_sizes.proofs.sizes.greatest.Given as goal

-- `greatest` meets its contract. Assumes nothing.
abbrev pub invariant-loop-level : goal.invariant-loop-level
invariant-loop-level l = max l.most (greatest_of (drop l.level-index l.block)) ≡ greatest_of l.block

use Rattle.hevc_wanted.specs.Shown.{is_level}
use Rattle.hevc_wanted.specs.ShownLaws.{Listed}
use Rattle.hevc_wanted.proofs.sub.places_of.Given as goal

-- `places_of` meets its contract. Assumes nothing.
abbrev pub invariant-loop-k : goal.invariant-loop-k
invariant-loop-k l = Listed (is_level l.levels) l.s l.k

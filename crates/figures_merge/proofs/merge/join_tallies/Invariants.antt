use Rattle.figures.specs.CodeLaws.{Turning, join_tallies}
use Rattle.figures_merge.proofs.merge.join_tallies.Given as goal

abbrev pub invariant-loop-i : goal.invariant-loop-i
invariant-loop-i l = Turning (join_tallies l.k) l.initial.tallies 24 l.tallies l.i

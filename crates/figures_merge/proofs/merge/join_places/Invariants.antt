use Rattle.figures.specs.CodeLaws.{Turning, join_blocks, join_sums, join_greatests}
use Rattle.figures_merge.proofs.merge.join_places.Given as goal

abbrev pub invariant-loop-i : goal.invariant-loop-i
invariant-loop-i l = Turning (join_blocks l.b) l.initial.blocks l.n l.blocks l.i × Turning (join_sums l.s) l.initial.sums l.n l.sums l.i × Turning (join_greatests l.g) l.initial.greatests l.n l.greatests l.i

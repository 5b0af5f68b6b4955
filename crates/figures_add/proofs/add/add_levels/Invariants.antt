use Rattle.figures.specs.CodeLaws.{Adding}
use Rattle.figures_add.proofs.add.add_levels.Given as goal

abbrev pub invariant-loop-i : goal.invariant-loop-i
invariant-loop-i l = Adding l.levels l.initial.blocks l.initial.sums l.initial.greatests l.n l.blocks l.sums l.greatests l.i

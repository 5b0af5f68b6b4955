use Rattle.hevc_summary.specs.CodeLaws.{Filling}
use Rattle.hevc_counts.proofs.counts.count_all.Given as goal

abbrev pub invariant-loop-s : goal.invariant-loop-s
invariant-loop-s l = Filling l.log2 l.levels l.initial.counts l.initial.sums l.n l.counts l.sums l.s

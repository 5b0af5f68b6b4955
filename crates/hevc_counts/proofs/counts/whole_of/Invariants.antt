use Rattle.hevc_summary.specs.CodeLaws.{Making}
use Rattle.hevc_counts.proofs.counts.whole_of.Given as goal

abbrev pub invariant-loop-s : goal.invariant-loop-s
invariant-loop-s l = Making l.log2 l.counts l.sums l.n l.count l.sum l.map l.s

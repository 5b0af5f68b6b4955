use Rattle.hevc_summary.specs.CodeLaws.{Counting}
use Rattle.hevc_counts.proofs.counts.count_in.Given as goal

abbrev pub invariant-loop-k : goal.invariant-loop-k
invariant-loop-k l = Counting l.log2 l.levels l.s l.count l.sum l.k

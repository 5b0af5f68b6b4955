use Rattle.h264_contexts.specs.PairLaws.{Inited}
use Rattle.h264_contexts.proofs.contexts.init_pairs.Given as goal

abbrev pub invariant-loop-i : goal.invariant-loop-i
invariant-loop-i l = Inited l.pairs l.q l.i l.contexts

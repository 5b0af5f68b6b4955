use Rattle.exp_golomb.specs.PrefixLaws.{Counted}
use Rattle.exp_golomb.proofs.eg_count.Given as goal

-- `eg_count` meets its contract. Assumes nothing.
abbrev pub invariant-loop-n : goal.invariant-loop-n
invariant-loop-n l = Counted l.k l.v l.most l.n

use Rattle.packer.specs.WalkLaws.{Written}
use Rattle.packer.proofs.list.put_list.Given as goal

abbrev pub invariant-loop-k : goal.invariant-loop-k
invariant-loop-k l = Written l.initial.room l.initial.contexts l.writing l.list l.k l.room l.c l.contexts

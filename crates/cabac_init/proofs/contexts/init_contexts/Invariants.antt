use Rattle.cabac.specs.EntryLaws.{Inited}
use Rattle.cabac_init.proofs.contexts.init_contexts.Given as goal

-- `init_contexts` meets its contract. Assumes nothing.
abbrev pub invariant-loop-i : goal.invariant-loop-i
invariant-loop-i l = Inited l.values l.q l.i l.contexts

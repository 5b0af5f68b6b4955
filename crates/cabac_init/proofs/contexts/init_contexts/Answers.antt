use native.Mathlib.Omega.{arith}
use mathlib.Core.Path.{refl}
use lib.ListN.{length}
use borrow.Author.Tests.{eq-eqb, ne_eqb}
use Rattle.bins.specs.Tags.{context_count}
use Rattle.cabac.specs.Entries.{values_refusal, contexts_after, statistics_after}
use Rattle.cabac.specs.EntryLaws.{inited_again, inited_all}
use Rattle.cabac_init.proofs.contexts.init_contexts.Goals as goal

pub returns-then-values-ne-CONTEXTS : goal.returns-then-values-ne-CONTEXTS
unfolding values_refusal contexts_after statistics_after
returns-then-values-ne-CONTEXTS c = (rw (ne_eqb _ _ c.if-values-ne-CONTEXTS.true), refl, refl)

pub loop-i-init : goal.loop-i-init
loop-i-init c = record { few = omega arith; many = omega arith; made = refl }

pub loop-i-preserved : goal.loop-i-preserved
loop-i-preserved c = let a = c.args in inited_again a.values.now a.q c.loop-i.i c.loop-i.contexts _ c.loop-i.invariant (omega arith) (omega arith) c.init.ensures

pub returns : goal.returns
unfolding values_refusal contexts_after statistics_after
returns c = let a = c.args in (rw (eq-eqb (length a.values.now) context_count (omega arith)), inited_all a.values.now c.loop-i.contexts a.q c.loop-i.i c.loop-i.invariant (omega arith) (omega arith), refl)

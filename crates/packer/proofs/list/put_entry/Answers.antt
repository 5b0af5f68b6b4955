use native.Mathlib.Omega.{arith}
use mathlib.Core.Path.{refl}
use Prim.Native.Nat.{◌/◌}
use Rattle.packer_steps.specs.Register.{register_of}
use Rattle.packer.specs.WalkLaws.{entry_context, entry_none, entry_bypass, entry_align_lem}
use Rattle.packer.proofs.list.put_entry.Goals as goal

pub decision-requires : goal.decision-requires
decision-requires c = let a = c.args in let h = c.requires in (h.0, h.1 (a.entry / 2), omega arith, h.2)

pub returns-then-number-contexts : goal.returns-then-number-contexts
returns-then-number-contexts c = let a = c.args in let h = c.requires in (entry_context a.contexts.now (register_of a.c) (register_of c.decision.result) a.entry _ _ (omega arith) c.decision.ensures.0 c.decision.ensures.1 refl, c.decision.ensures.2)

pub returns-then-entry : goal.returns-then-entry
returns-then-entry c = let a = c.args in let h = c.requires in (entry_none a.contexts.now (register_of a.c) (register_of c.decision-then-entry.result) a.entry (omega arith) (omega arith) c.decision-then-entry.ensures.0, c.decision-then-entry.ensures.2)

pub returns-then-entry-eq-ALIGNMENT : goal.returns-then-entry-eq-ALIGNMENT
returns-then-entry-eq-ALIGNMENT c = let a = c.args in let h = c.requires in (entry_align_lem a.contexts.now (register_of a.c) (register_of c.align.result) a.entry (omega arith) c.align.ensures.0, c.align.ensures.1)

pub returns : goal.returns
returns c = let a = c.args in let h = c.requires in (entry_bypass a.contexts.now (register_of a.c) (register_of c.bypass.result) a.entry (omega arith) (λ z. omega arith) c.bypass.ensures.0, c.bypass.ensures.1)

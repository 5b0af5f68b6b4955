use Prim.Native.Nat.{◌-◌}
use native.Mathlib.Omega.{arith}
use mathlib.Core.Path.{refl, ◌∙◌}
use Rattle.text_fields.specs.FieldLaws.{field_next, field_ended, field_here}
use Rattle.text_fields.proofs.fields.field_start.Goals as goal

pub loop-left-init : goal.loop-left-init
loop-left-init c = (omega arith, refl)

pub returns-then-s-space : goal.returns-then-s-space
returns-then-s-space c = (omega arith, field_ended _ c.loop-left.from c.loop-left._left _ c.find-space.ensures.place (omega arith) (omega arith) ∙ c.loop-left.invariant.1)

pub loop-left-preserved : goal.loop-left-preserved
loop-left-preserved c = (omega arith, field_next _ c.loop-left.from c.loop-left._left _ (c.loop-left._left - 1) c.find-space.ensures.place (omega arith) ∙ c.loop-left.invariant.1)

pub returns : goal.returns
returns c = (omega arith, field_here _ c.loop-left.from c.loop-left._left (omega arith) ∙ c.loop-left.invariant.1)

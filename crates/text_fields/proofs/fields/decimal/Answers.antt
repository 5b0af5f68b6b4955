use native.Mathlib.Omega.{arith}
use mathlib.Core.Path.{◌∙◌}
use Rattle.text_fields.specs.SpelledLaws.{decimal_empty, decimal_first, decimal_none, decimal_more, decimal_end}
use Rattle.text_fields.proofs.fields.decimal.Goals as goal

pub returns-then-s-eq0 : goal.returns-then-s-eq0
returns-then-s-eq0 c = decimal_empty c.args.s.now c.if-s-eq0.true

pub loop-b-init : goal.loop-b-init
loop-b-init c = decimal_first c.args.s.now c.if-s-eq0.false

pub returns-then-b-lt48 : goal.returns-then-b-lt48
returns-then-b-lt48 c = decimal_none _ c.loop-b.b-index c.loop-b.v (omega arith) (λ h k m. omega arith) ∙ c.loop-b.invariant

pub returns-then-b-gt57 : goal.returns-then-b-gt57
returns-then-b-gt57 c = decimal_none _ c.loop-b.b-index c.loop-b.v (omega arith) (λ h k m. omega arith) ∙ c.loop-b.invariant

pub returns-then-v-gt1000000000000000000 : goal.returns-then-v-gt1000000000000000000
returns-then-v-gt1000000000000000000 c = decimal_none _ c.loop-b.b-index c.loop-b.v (omega arith) (λ h k m. omega arith) ∙ c.loop-b.invariant

pub loop-b-preserved : goal.loop-b-preserved
loop-b-preserved c =
    decimal_more c.args.s.now c.loop-b.b-index c.loop-b.v (omega arith) c.digit_value.result (omega arith) (omega arith) (omega arith) c.digit_value.ensures
    ∙ c.loop-b.invariant

pub returns : goal.returns
returns c = decimal_end c.args.s.now c.loop-b.b-index c.loop-b.v (omega arith) ∙ c.loop-b.invariant

use mathlib.Core.Path.{ap, ◌∙◌}
use Rattle.frame.specs.VerdictLaws.{tail_is, checks_payload, checks_flags, checks_last}
use Rattle.cabac.specs.Numbers.{payload_refusal}
use Rattle.frame.proofs.judge.checks.Goals as goal

pub returns-then-a-ne0 : goal.returns-then-a-ne0
returns-then-a-ne0 c =
    let a = c.args in
    checks_payload a.bytes.now _ (c.payload_refusal-a.ensures ∙ ap payload_refusal (tail_is a.bytes.now)) c.if-a-ne0.true

pub returns-then-b-ne0 : goal.returns-then-b-ne0
returns-then-b-ne0 c =
    let a = c.args in
    checks_flags a.bytes.now _ (c.payload_refusal-a.ensures ∙ ap payload_refusal (tail_is a.bytes.now)) _ c.if-a-ne0.false c.flags_refusal-b.ensures c.if-b-ne0.true

pub returns : goal.returns
returns c =
    let a = c.args in
    checks_last a.bytes.now _ (c.payload_refusal-a.ensures ∙ ap payload_refusal (tail_is a.bytes.now)) _ _ _ c.if-a-ne0.false c.flags_refusal-b.ensures c.if-b-ne0.false
    c.params.ensures c.parameter_refusal.ensures

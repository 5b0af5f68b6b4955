use native.Mathlib.Omega.{arith}
use mathlib.Core.Path.{ap, ◌∙◌}
use Rattle.bins.specs.declared.fetch.Drawn.{Drawn}
use Rattle.bins.specs.Interval.{supplied}
use Rattle.bins.specs.BypassLaws.{few_small, few_code}
use Rattle.payload_bypass.proofs.bypass.bypass_few.Goals as goal

pub overflow_add-whole : goal.overflow_add-whole
overflow_add-whole c =
    let a = c.args in
    let h = c.requires in
    let d = c.draw-drawn.ensures ∙ ap (λ p. supplied a.bytes.now p a.n) c.in_payload-at.ensures in
    omega (arith, few_small a.bytes.now a.x a.n h.0 h.1, ap (λ (k : Drawn). k.bits) d)

pub returns : goal.returns
returns c =
    let a = c.args in
    let h = c.requires in
    let d = c.draw-drawn.ensures ∙ ap (λ p. supplied a.bytes.now p a.n) c.in_payload-at.ensures in
    few_code a.bytes.now a.x a.n h.0 h.1 _ _ (ap (λ (k : Drawn). k.bits) d) (c.of_payload-behind.ensures ∙ ap (λ (k : Drawn). k.next.0) d)

use native.Mathlib.Omega.{arith}
use Rattle.bins.specs.declared.fetch.Drawn.{Drawn}
use Rattle.bins.specs.Interval.{supplied}
use Rattle.bins.specs.BitLaws.{bits_below}
use Rattle.bins.specs.BypassLaws.{one_code}
use mathlib.Core.Path.{ap, ◌∙◌}
use Rattle.payload_bypass.proofs.bypass.bypass_one.Goals as goal

pub overflow_add-offset : goal.overflow_add-offset
overflow_add-offset c =
    let a = c.args in
    let h = c.requires in
    let place = c.in_payload-at.result.0 in
    omega (arith, h.most, h.below, ap (λ (k : Drawn). k.bits) c.draw-drawn.ensures, bits_below a.bytes.now place 1 1 (omega arith))

pub returns : goal.returns
returns c =
    let a = c.args in
    let d = c.draw-drawn.ensures ∙ ap (λ p. supplied a.bytes.now p 1) c.in_payload-at.ensures in
    one_code a.bytes.now a.x _ _ _ _ c.requires (ap (λ (k : Drawn). k.bits) d) (c.of_payload-behind.ensures ∙ ap (λ (k : Drawn). k.next.0) d) c.pick.ensures c.keep-kept.ensures

use native.Mathlib.Omega.{arith}
use mathlib.Core.Path.{ap, ◌∙◌}
use Rattle.bins.specs.declared.fetch.Drawn.{Drawn}
use Rattle.bins.specs.Interval.{supplied}
use Rattle.bins.specs.BitLaws.{bits_below}
use Rattle.bins.specs.EngineLaws.{shifted}
use Rattle.bins.specs.IntervalLaws.{shift, shift_few, offset_small, renormed_code}
use Rattle.payload_source.proofs.payload.renorm.Goals as goal

pub overflow_sub-shift : goal.overflow_sub-shift
overflow_sub-shift c =
    let a = c.args in
    let h = c.requires in
    omega (arith, (shifted a.range h.some h.nine).same)

pub draw-drawn-requires : goal.draw-drawn-requires
draw-drawn-requires c =
    let a = c.args in
    let h = c.requires in
    (omega (arith, h.fits, c.in_payload-at.ensures), h.short, omega (arith, shift_few a.bytes.now a.x a.range a.offset h))

pub overflow_shl-result : goal.overflow_shl-result
overflow_shl-result c =
    let a = c.args in
    let h = c.requires in
    omega (arith, shift_few a.bytes.now a.x a.range a.offset h)

pub overflow_shl-result-2 : goal.overflow_shl-result-2
overflow_shl-result-2 c =
    let a = c.args in
    let h = c.requires in
    omega (arith, shift_few a.bytes.now a.x a.range a.offset h)

pub overflow_add-result : goal.overflow_add-result
overflow_add-result c =
    let a = c.args in
    let h = c.requires in
    let place = c.in_payload-at.result.0 in
    let few = shift_few a.bytes.now a.x a.range a.offset h in
    omega (arith, offset_small a.bytes.now a.x a.range a.offset h, ap (λ (k : Drawn). k.bits) c.draw-drawn.ensures, bits_below a.bytes.now place (shift a.bytes.now a.x a.range a.offset h) 8 few)

pub returns : goal.returns
returns c =
    let a = c.args in
    let h = c.requires in
    let d = c.draw-drawn.ensures ∙ ap (λ p. supplied a.bytes.now p (shift a.bytes.now a.x a.range a.offset h)) c.in_payload-at.ensures in
    renormed_code a.bytes.now a.x a.range a.offset h _ _ (ap (λ (k : Drawn). k.bits) d) (c.of_payload-behind.ensures ∙ ap (λ (k : Drawn). k.next.0) d)

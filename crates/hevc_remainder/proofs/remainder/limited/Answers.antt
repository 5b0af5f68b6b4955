use native.Mathlib.Omega.{arith}
use Rattle.bins.specs.StepLaws.{passed_on}
use Rattle.hevc_remainder.specs.RemainderLaws.{ones_readable, limited_few, limited_refused, limited_stops, limited_short, limited_got}
use mathlib.Core.Path.{ap, ◌∙◌}
use Prim.Native.Nat.{◌-◌, min}
use Rattle.hevc_magnitudes.specs.Most.{most}
use Rattle.hevc_remainder.proofs.remainder.limited.Goals as goal

pub returns-in_err-n : goal.returns-in_err-n
returns-in_err-n c =
    λ v cs.
    let a = c.args in
    rw (passed_on c.from_residual.result _ c.from_residual.ensures.1)
    (limited_refused a.list a.bytes.now a.t a.k a.x c.ones.result c.ones.ensures v cs _ c.in_err-n.was)

pub escape_length-length-requires : goal.escape_length-length-requires
escape_length-length-requires c =
    let a = c.args in
    let h = c.requires in
    (h.2, limited_few a.list a.bytes.now a.t a.k a.x c.ones.result c.ones.ensures h.1 _ _ c.in_ok-n.was, h.3)

pub returns-then-length-gt32 : goal.returns-then-length-gt32
returns-then-length-gt32 c =
    λ v cs.
    let a = c.args in
    limited_stops a.list a.bytes.now a.t a.k a.x c.ones.result c.ones.ensures v cs _ _ c.in_ok-n.was c.escape_length-length.result
    c.escape_length-length.ensures c.if-length-gt32.true

pub decode_bypass_bits-requires : goal.decode_bypass_bits-requires
decode_bypass_bits-requires c =
    let a = c.args in
    (ones_readable a.list a.bytes.now (28 - a.t) a.x c.ones.result c.ones.ensures _ _ c.in_ok-n.was c.requires.0, c.if-length-gt32.false)

pub returns-in_err-suffix : goal.returns-in_err-suffix
returns-in_err-suffix c =
    λ v cs.
    let a = c.args in
    let h = c.requires in
    rw (passed_on c.from_residual-in_err-suffix.result _ c.from_residual-in_err-suffix.ensures.1)
    (limited_short a.list a.bytes.now a.t a.k a.x c.ones.result c.ones.ensures v cs _ _ c.in_ok-n.was c.escape_length-length.result c.escape_length-length.ensures h.1
    h.3 c.if-length-gt32.false h.0 c.decode_bypass_bits.result c.decode_bypass_bits.ensures _ c.in_err-suffix.was)

pub whole_of-requires : goal.whole_of-requires
whole_of-requires c =
    let a = c.args in
    let h = c.requires in (
      omega (
        arith,
        limited_few a.list a.bytes.now a.t a.k a.x c.ones.result c.ones.ensures h.1 _ _
            c.in_ok-n.was,
      ),
      h.3,
    )

pub returns : goal.returns
returns c =
    λ v cs.
    let a = c.args in
    let h = c.requires in
    limited_got a.list a.bytes.now a.t a.k a.x c.ones.result c.ones.ensures v cs _ _ c.in_ok-n.was c.escape_length-length.result c.escape_length-length.ensures h.1
    h.3 c.if-length-gt32.false h.0 c.decode_bypass_bits.result c.decode_bypass_bits.ensures _ _ c.in_ok-suffix.was c.capped.result
    (c.capped.ensures ∙ ap (λ z. min z most) c.whole_of.ensures)

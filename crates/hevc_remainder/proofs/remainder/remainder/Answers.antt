use native.Mathlib.Omega.{arith}
use Rattle.bins.specs.StepLaws.{passed_on}
use Rattle.hevc_remainder.specs.RemainderLaws.{ones_readable, four_shl, four_small, remainder_refused, remainder_short, remainder_low_fits, remainder_low_got, remainder_cut, remainder_got}
use mathlib.Core.List.{[]}
use Rattle.hevc_remainder.proofs.remainder.remainder.Goals as goal

pub returns-in_err-q : goal.returns-in_err-q
returns-in_err-q c =
    λ v cs.
    let a = c.args in
    rw (passed_on c.from_residual.result _ c.from_residual.ensures.1)
    (remainder_refused a.list a.bytes.now a.p a.rice a.x c.ones.result c.ones.ensures v cs _ c.in_err-q.was)

pub decode_bypass_bits-requires : goal.decode_bypass_bits-requires
decode_bypass_bits-requires c =
    let a = c.args in
    (ones_readable a.list a.bytes.now 4 a.x c.ones.result c.ones.ensures _ _ c.in_ok-q.was c.requires.0, omega (arith, c.requires.2))

pub returns-in_err-suffix : goal.returns-in_err-suffix
returns-in_err-suffix c =
    λ v cs.
    let a = c.args in
    rw (passed_on c.from_residual-in_err-suffix.result _ c.from_residual-in_err-suffix.ensures.1)
    (remainder_short a.list a.bytes.now a.p a.rice a.x c.ones.result c.ones.ensures v cs _ _ c.in_ok-q.was c.if-q-lt4.true
    c.requires.0 c.decode_bypass_bits.result c.decode_bypass_bits.ensures _ c.in_err-suffix.was)

pub overflow_add-result : goal.overflow_add-result
overflow_add-result c =
    let a = c.args in
    omega (
      arith,
      remainder_low_fits a.list a.bytes.now a.p a.rice a.x c.ones.result c.ones.ensures (λ t. 0) [] _ _ c.in_ok-q.was
          c.if-q-lt4.true c.requires.0 c.decode_bypass_bits.result c.decode_bypass_bits.ensures c.requires.2 _ _ c.in_ok-suffix.was,
    )

pub returns-then-q-lt4 : goal.returns-then-q-lt4
returns-then-q-lt4 c =
    λ v cs.
    let a = c.args in
    remainder_low_got a.list a.bytes.now a.p a.rice a.x c.ones.result c.ones.ensures v cs _ _ c.in_ok-q.was c.if-q-lt4.true c.requires.0
    c.decode_bypass_bits.result c.decode_bypass_bits.ensures c.requires.2 _ _ c.in_ok-suffix.was

pub escape-requires : goal.escape-requires
escape-requires c =
    let a = c.args in
    let h = c.requires in
    (ones_readable a.list a.bytes.now 4 a.x c.ones.result c.ones.ensures _ _ c.in_ok-q.was h.0, h.1, h.2)

pub returns-in_err-more : goal.returns-in_err-more
returns-in_err-more c =
    λ v cs.
    let a = c.args in
    rw (passed_on c.from_residual-in_err-more.result _ c.from_residual-in_err-more.ensures.1)
    (remainder_cut a.list a.bytes.now a.p a.rice a.x c.ones.result c.ones.ensures v cs _ _ c.in_ok-q.was c.if-q-lt4.false
    c.escape.result c.escape.ensures _ c.in_err-more.was)

pub overflow_add-rice : goal.overflow_add-rice
overflow_add-rice c =
    let a = c.args in
    let h = c.requires in
    omega (arith, four_shl a.rice h.2, four_small a.rice h.2)

pub returns : goal.returns
returns c =
    λ v cs.
    let a = c.args in
    remainder_got a.list a.bytes.now a.p a.rice a.x c.ones.result c.ones.ensures v cs _ _ c.in_ok-q.was c.if-q-lt4.false c.escape.result
    c.escape.ensures c.requires.2 _ _ c.in_ok-more.was c.capped.result c.capped.ensures

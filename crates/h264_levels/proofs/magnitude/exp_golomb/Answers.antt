use native.Mathlib.Omega.{arith}
use Rattle.bins.specs.StepLaws.{passed_on}
use Rattle.h264_levels.specs.MagnitudeLaws.{ones_readable, ones_upto, golomb_refused, golomb_stops, golomb_short, golomb_below, golomb_code}
use Rattle.h264_levels.proofs.magnitude.exp_golomb.Goals as goal

pub returns-in_err-n : goal.returns-in_err-n
returns-in_err-n c =
    λ v cs.
    let a = c.args in
    rw (passed_on c.from_residual.result _ c.from_residual.ensures.1)
    (golomb_refused a.list a.bytes.now a.most a.x c.ones.result c.ones.ensures v cs _ c.in_err-n.was)

pub returns-then-most-n : goal.returns-then-most-n
returns-then-most-n c =
    λ v cs.
    let a = c.args in
    golomb_stops a.list a.bytes.now a.most a.x c.ones.result c.ones.ensures v cs _ _ c.in_ok-n.was c.if-most-n.true

pub decode_bypass_bits-requires : goal.decode_bypass_bits-requires
decode_bypass_bits-requires c =
    let a = c.args in (
      ones_readable a.list a.bytes.now a.most a.x c.ones.result c.ones.ensures _ _ c.in_ok-n.was c.requires.0,
      omega
          (arith, ones_upto a.list a.bytes.now a.most a.x c.ones.result c.ones.ensures _ _ c.in_ok-n.was, c.requires.1),
    )

pub returns-in_err-suffix : goal.returns-in_err-suffix
returns-in_err-suffix c =
    λ v cs.
    let a = c.args in
    rw (passed_on c.from_residual-in_err-suffix.result _ c.from_residual-in_err-suffix.ensures.1)
    (golomb_short a.list a.bytes.now a.most a.x c.ones.result c.ones.ensures v cs _ _ c.in_ok-n.was c.if-most-n.false c.requires.0
    c.decode_bypass_bits.result c.decode_bypass_bits.ensures _ c.in_err-suffix.was)

pub overflow_sub-result : goal.overflow_sub-result
overflow_sub-result c =
    let a = c.args in
    let b = golomb_below a.list a.bytes.now a.most a.x c.ones.result c.ones.ensures _ _ c.in_ok-n.was c.requires.0 c.decode_bypass_bits.result c.decode_bypass_bits.ensures _ _
    c.in_ok-suffix.was c.requires.1 in
    omega (arith, b.0, b.1)

pub overflow_add-result : goal.overflow_add-result
overflow_add-result c =
    let a = c.args in
    let b = golomb_below a.list a.bytes.now a.most a.x c.ones.result c.ones.ensures _ _ c.in_ok-n.was c.requires.0 c.decode_bypass_bits.result c.decode_bypass_bits.ensures _ _
    c.in_ok-suffix.was c.requires.1 in
    omega (arith, b.0, b.1, b.2)

pub returns : goal.returns
returns c =
    λ v cs.
    let a = c.args in
    golomb_code a.list a.bytes.now a.most a.x c.ones.result c.ones.ensures _ _ c.in_ok-n.was c.requires.0 c.decode_bypass_bits.result c.decode_bypass_bits.ensures _ _
    c.in_ok-suffix.was c.requires.1 c.if-most-n.false v cs

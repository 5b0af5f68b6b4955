use native.Mathlib.Omega.{arith}
use Rattle.bins.specs.StepLaws.{passed_on}
use Rattle.hevc_remainder.specs.RemainderLaws.{ones_readable, egk_refused, egk_stops, egk_wide, egk_short, egk_got}
use mathlib.Core.Path.{ap, ◌∙◌}
use Prim.Native.Nat.{min}
use Rattle.hevc_magnitudes.specs.Most.{most}
use Rattle.hevc_remainder.proofs.remainder.exp_golomb.Goals as goal

pub returns-in_err-n : goal.returns-in_err-n
returns-in_err-n c =
    λ v cs.
    let a = c.args in
    rw (passed_on c.from_residual.result _ c.from_residual.ensures.1)
    (egk_refused a.list a.bytes.now a.k a.x c.ones.result c.ones.ensures v cs _ c.in_err-n.was)

pub returns-then-n-ge31 : goal.returns-then-n-ge31
returns-then-n-ge31 c =
    λ v cs.
    let a = c.args in
    egk_stops a.list a.bytes.now a.k a.x c.ones.result c.ones.ensures v cs _ _ c.in_ok-n.was c.if-n-ge31.true

pub returns-then-n-k-ge32 : goal.returns-then-n-k-ge32
returns-then-n-k-ge32 c =
    λ v cs.
    let a = c.args in
    egk_wide a.list a.bytes.now a.k a.x c.ones.result c.ones.ensures v cs _ _ c.in_ok-n.was c.if-n-k-ge32.true

pub decode_bypass_bits-requires : goal.decode_bypass_bits-requires
decode_bypass_bits-requires c =
    let a = c.args in
    (ones_readable a.list a.bytes.now 31 a.x c.ones.result c.ones.ensures _ _ c.in_ok-n.was c.requires.0, omega arith)

pub returns-in_err-suffix : goal.returns-in_err-suffix
returns-in_err-suffix c =
    λ v cs.
    let a = c.args in
    rw (passed_on c.from_residual-in_err-suffix.result _ c.from_residual-in_err-suffix.ensures.1)
    (egk_short a.list a.bytes.now a.k a.x c.ones.result c.ones.ensures v cs _ _ c.in_ok-n.was c.if-n-ge31.false c.if-n-k-ge32.false
    c.requires.0 c.decode_bypass_bits.result c.decode_bypass_bits.ensures _ c.in_err-suffix.was)

pub returns : goal.returns
returns c =
    λ v cs.
    let a = c.args in
    egk_got a.list a.bytes.now a.k a.x c.ones.result c.ones.ensures v cs _ _ c.in_ok-n.was c.if-n-ge31.false c.if-n-k-ge32.false
    c.requires.0 c.decode_bypass_bits.result c.decode_bypass_bits.ensures _ _ c.in_ok-suffix.was c.capped.result
    (c.capped.ensures ∙ ap (λ z. min z most) c.whole_of.ensures)

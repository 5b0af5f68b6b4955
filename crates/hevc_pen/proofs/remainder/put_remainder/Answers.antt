use native.Mathlib.Omega.{arith}
use mathlib.Core.Path.{refl, sym, ap, subst}
use Prim.Native.Nat.{◌+◌, ◌-◌, ◌^◌, ◌≤◌, ◌<◌}
use Rattle.hevc_pen.specs.RemainderLaws.{quotient_shl, quotient_back, low_fits, four_shl, four_back, remainder_low, remainder_high, bits_as, escape_as}
use Rattle.hevc_pen.proofs.remainder.put_remainder.Goals as goal

pub overflow_sub-v : goal.overflow_sub-v
overflow_sub-v c =
    let a = c.args in
    subst (λ z. z ≤ a.v) (sym (quotient_shl a.v a.rice c.requires.1 c.if-q-lt4.true)) (quotient_back a.v a.rice)

pub put_bits-requires : goal.put_bits-requires
put_bits-requires c =
    let a = c.args in (
      omega (arith, c.requires.1),
      subst (λ z. a.v - z < 2 ^ a.rice) (sym (quotient_shl a.v a.rice c.requires.1 c.if-q-lt4.true)) (low_fits a.v a.rice),
    )

pub returns-then-q-lt4 : goal.returns-then-q-lt4
returns-then-q-lt4 c =
    let a = c.args in
    remainder_low a.p a.rice a.v _ _ _ c.if-q-lt4.true c.put_ones-y.ensures
    (bits_as refl (ap (λ z. a.v - z) (quotient_shl a.v a.rice c.requires.1 c.if-q-lt4.true)) c.put_bits.ensures)

pub overflow_sub-v-2 : goal.overflow_sub-v-2
overflow_sub-v-2 c =
    let a = c.args in
    subst (λ z. z ≤ a.v) (sym (four_shl a.rice c.requires.1)) (four_back a.v a.rice c.if-q-lt4.false)

pub returns : goal.returns
returns c =
    let a = c.args in
    remainder_high a.p a.rice a.v _ _ _ c.if-q-lt4.false c.put_ones-y-2.ensures
    (escape_as a.p (a.rice + 1) _ _ _ _ (ap (λ z. a.v - z) (four_shl a.rice c.requires.1)) c.put_escape.ensures)

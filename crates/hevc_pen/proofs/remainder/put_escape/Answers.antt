use mathlib.Core.Path.{sym, subst}
use Prim.Native.Nat.{◌^◌, ◌≤◌, ◌<◌}
use Rattle.hevc_magnitudes.specs.MagnitudeLaws.{range_within}
use Rattle.hevc_pen.specs.RemainderLaws.{value_small, escape_limited, escape_plain}
use Rattle.hevc_pen.proofs.remainder.put_escape.Goals as goal

pub put_limited-requires : goal.put_limited-requires
put_limited-requires c =
    let a = c.args in
    let h = range_within a.p c.requires.0 in (
      subst (λ z. 15 ≤ z) (sym c.range_bits.ensures) h.0,
      subst (λ z. z ≤ 22) (sym c.range_bits.ensures) h.1,
      c.requires.1,
      subst (λ z. a.v < 2 ^ z) (sym c.range_bits.ensures) c.requires.2,
    )

pub returns-then-p : goal.returns-then-p
returns-then-p c =
    let a = c.args in
    escape_limited a.p a.k a.v _ _ c.if-p.true c.range_bits.result c.range_bits.ensures
    c.put_limited.ensures

pub put_exp_golomb-requires : goal.put_exp_golomb-requires
put_exp_golomb-requires c =
    let a = c.args in
    (c.requires.1, value_small a.p a.v c.requires.0 c.requires.2)

pub returns : goal.returns
returns c =
    let a = c.args in
    escape_plain a.p a.k a.v _ _ c.if-p.false c.put_exp_golomb.ensures

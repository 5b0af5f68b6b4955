use native.Mathlib.Omega.{arith}
use mathlib.Core.Path.{sym, subst}
use Prim.Native.Nat.{◌-◌, ◌^◌, ◌≤◌, ◌<◌}
use Rattle.hevc_residual.specs.Remainder.{eg_base}
use Rattle.exp_golomb.specs.PrefixLaws.{base_reached}
use Rattle.hevc_pen.specs.RemainderLaws.{limited_fits, limited_written, bits_as}
use Rattle.hevc_pen.proofs.remainder.put_limited.Goals as goal

pub eg_rest-requires : goal.eg_rest-requires
eg_rest-requires c =
    let a = c.args in (
      omega (arith, c.eg_count-n.ensures.upto, c.requires.0),
      c.requires.2,
      base_reached a.k a.v (28 - a.t) c.eg_count-n.result c.eg_count-n.ensures,
    )

pub put_bits-requires : goal.put_bits-requires
put_bits-requires c =
    let a = c.args in
    let f = limited_fits a.k a.v c.eg_count-n.result c.requires.2 a.t c.requires.0 c.requires.1 c.requires.3 c.eg_count-n.ensures in (
      subst (λ z. z ≤ 32) (sym c.escape_length.ensures) f.0,
      subst (λ z. z < 2 ^ c.escape_length.result) (sym c.eg_rest.ensures)
          (subst (λ z. a.v - eg_base a.k c.eg_count-n.result < 2 ^ z) (sym c.escape_length.ensures) f.1),
    )

pub returns : goal.returns
returns c =
    let a = c.args in
    limited_written a.k a.v c.eg_count-n.result _ _ _ c.requires.2 a.t c.requires.0 c.requires.1 c.requires.3 c.eg_count-n.ensures
    c.put_ones-y.ensures (bits_as c.escape_length.ensures c.eg_rest.ensures c.put_bits.ensures)

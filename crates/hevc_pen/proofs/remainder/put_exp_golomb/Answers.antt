use mathlib.Core.Path.{refl, sym, subst}
use Prim.Native.Nat.{◌+◌, ◌^◌, ◌<◌}
use Rattle.exp_golomb.specs.PrefixLaws.{base_reached}
use Rattle.hevc_pen.specs.RemainderLaws.{egk_fits, egk_written, bits_as}
use Rattle.hevc_pen.proofs.remainder.put_exp_golomb.Goals as goal

pub eg_rest-requires : goal.eg_rest-requires
eg_rest-requires c =
    let a = c.args in (
      c.eg_count-n.ensures.upto,
      c.requires.0,
      base_reached a.k a.v 31 c.eg_count-n.result c.eg_count-n.ensures,
    )

pub put_bits-requires : goal.put_bits-requires
put_bits-requires c =
    let a = c.args in
    let f = egk_fits a.k a.v c.eg_count-n.result c.requires.0 c.requires.1 c.eg_count-n.ensures in (
      f.0,
      subst (λ z. z < 2 ^ (c.eg_count-n.result + a.k)) (sym c.eg_rest.ensures) f.1,
    )

pub returns : goal.returns
returns c =
    let a = c.args in
    egk_written a.k a.v c.eg_count-n.result _ _ _ c.requires.0 c.requires.1 c.eg_count-n.ensures c.put_ones-y.ensures
    (bits_as refl c.eg_rest.ensures c.put_bits.ensures)

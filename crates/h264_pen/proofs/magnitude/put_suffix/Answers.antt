use Rattle.h264_pen.specs.MagnitudePuts.{suffix_short, suffix_fits, suffix_put}
use Rattle.exp_golomb.specs.PrefixLaws.{base_reached}
use mathlib.Core.Path.{sym, subst}
use Prim.Native.Nat.{◌^◌, ◌<◌}
use native.Mathlib.Omega.{arith}
use Rattle.h264_pen.proofs.magnitude.put_suffix.Goals as goal

pub eg_rest-requires : goal.eg_rest-requires
eg_rest-requires c = (omega (arith, c.eg_count-n.ensures.upto), omega arith, base_reached 0 c.args.v 16 c.eg_count-n.result c.eg_count-n.ensures)

pub put_bits-requires : goal.put_bits-requires
put_bits-requires c =
    let v = c.args.v in
    (omega (arith, suffix_short v c.eg_count-n.result c.eg_count-n.ensures c.requires), subst (λ z. z < 2 ^ c.eg_count-n.result) (sym c.eg_rest.ensures) (suffix_fits v c.eg_count-n.result c.eg_count-n.ensures c.requires))

pub returns : goal.returns
returns c = suffix_put c.args.v c.eg_count-n.result c.eg_count-n.ensures c.requires _ _ _ c.put_ones-y.ensures c.eg_rest.result c.eg_rest.ensures c.put_bits.ensures

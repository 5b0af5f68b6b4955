use native.Mathlib.Omega.{arith}
use mathlib.Core.Path.{refl}
use Rattle.hevc_residual.specs.LimitLaws.{range_small}
use Rattle.hevc_write_refusal.specs.RefusalLaws.{asked_handed, gives_nine, gives_ten, gives_eight, gives_eleven, gives_none}
use Rattle.hevc_write_refusal.proofs.refusal.write_refusal.Goals as goal

pub returns-then-all_zero : goal.returns-then-all_zero
returns-then-all_zero c =
    let a = c.args in
    gives_nine a.p a.skip a.rdpcm a.block.now c.all_zero.result c.all_zero.ensures c.if-all_zero.true

pub returns-then-not_coded : goal.returns-then-not_coded
returns-then-not_coded c =
    let a = c.args in
    gives_ten a.p a.skip a.rdpcm a.block.now c.all_zero.result c.all_zero.ensures c.if-all_zero.false c.not_coded.result c.not_coded.ensures
    c.if-not_coded.true

pub too_far-requires : goal.too_far-requires
too_far-requires c = omega (arith, c.range_bits.ensures, range_small c.args.p c.requires.0.depth)

pub returns-then-too_far : goal.returns-then-too_far
returns-then-too_far c =
    let a = c.args in
    gives_eight a.p a.skip a.rdpcm a.block.now c.all_zero.result c.all_zero.ensures c.if-all_zero.false
    c.not_coded.result c.not_coded.ensures c.if-not_coded.false
    c.range_bits.result c.range_bits.ensures c.too_far.result c.too_far.ensures c.if-too_far.true

pub returns-then-any_disagrees : goal.returns-then-any_disagrees
returns-then-any_disagrees c =
    let a = c.args in
    gives_eleven a.p a.skip a.rdpcm a.block.now c.all_zero.result c.all_zero.ensures
    c.if-all_zero.false c.not_coded.result c.not_coded.ensures
    c.if-not_coded.false
    c.range_bits.result c.range_bits.ensures c.too_far.result c.too_far.ensures c.if-too_far.false
    c.any_disagrees.result (c.any_disagrees.ensures _ (asked_handed a.p a.skip a.rdpcm a.block.now _ refl refl)) c.if-any_disagrees.true

pub returns : goal.returns
returns c =
    let a = c.args in
    gives_none a.p a.skip a.rdpcm a.block.now c.all_zero.result c.all_zero.ensures
    c.if-all_zero.false c.not_coded.result c.not_coded.ensures
    c.if-not_coded.false
    c.range_bits.result c.range_bits.ensures c.too_far.result c.too_far.ensures c.if-too_far.false
    c.any_disagrees.result (c.any_disagrees.ensures _ (asked_handed a.p a.skip a.rdpcm a.block.now _ refl refl)) c.if-any_disagrees.false

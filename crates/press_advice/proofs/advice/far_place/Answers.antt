use native.Mathlib.Omega.{arith}
use mathlib.Core.Path.{sym}
use Rattle.hevc_residual.specs.LimitLaws.{range_small}
use Rattle.press_strokes.specs.StrokeLaws.{area_few}
use Rattle.press_advice.specs.AdviceLaws.{far_found}
use Rattle.press_advice.proofs.advice.far_place.Goals as goal

-- `far_place` meets its contract. Assumes nothing.
pub area_of-n-requires : goal.area_of-n-requires
area_of-n-requires c = let a = c.requires.0 in (a.least, a.most)

pub range_bits-requires : goal.range_bits-requires
range_bits-requires c = c.requires.0.depth

pub first_far-i-requires : goal.first_far-i-requires
first_far-i-requires c = (omega (arith, c.range_bits.ensures, range_small c.args.p c.requires.0.depth), omega (arith, c.area_of-n.ensures, area_few c.args.p c.requires.0.most))

pub returns-then-i-n : goal.returns-then-i-n
returns-then-i-n c = far_found c.args.p c.args.levels.now _ _ _ c.requires.1 c.area_of-n.ensures c.range_bits.ensures c.first_far-i.ensures c.if-i-n.true

pub returns : goal.returns
returns c = sym c.requires.1

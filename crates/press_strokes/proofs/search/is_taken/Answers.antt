use native.Mathlib.Omega.{arith}
use mathlib.Core.Path.{◌∙◌}
use mir.Syntax.{w32}
use mir.Val.{SFits}
use mir.Facts.{to_z-of_z}
use Rattle.press_strokes.specs.StrokeLaws.{area_few, zero_stays, far_stays, asked}
use Rattle.press_strokes.proofs.search.is_taken.Goals as goal

-- `is_taken` meets its contract. Assumes nothing.
pub magnitude_at-m-requires : goal.magnitude_at-m-requires
magnitude_at-m-requires c = omega (arith, c.requires.1, area_few c.args.p c.requires.0.most)

pub returns-then-m-eq0 : goal.returns-then-m-eq0
returns-then-m-eq0 c = let a = c.args in zero_stays a.p a.levels.now a.c _ c.magnitude_at-m.ensures c.if-m-eq0.true

pub returns-then-m-gt4194303 : goal.returns-then-m-gt4194303
returns-then-m-gt4194303 c = let a = c.args in far_stays a.p a.levels.now a.c _ c.magnitude_at-m.ensures c.if-m-eq0.false c.if-m-gt4194303.true

pub stroke_at-requires : goal.stroke_at-requires
stroke_at-requires c = let e = c.magnitude_at-m.ensures in (omega (arith, c.requires.1, area_few c.args.p c.requires.0.most), omega (arith, e, c.if-m-eq0.false), omega (arith, e, c.if-m-gt4194303.false))

pub takes-requires : goal.takes-requires
takes-requires c = (c.requires.0, omega (arith, c.requires.1, area_few c.args.p c.requires.0.most), c.requires.2)

pub returns : goal.returns
returns c = let a = c.args in asked a.p a.levels.now a.c _ c.magnitude_at-m.ensures c.if-m-eq0.false (omega (arith, c.if-m-gt4194303.false)) _ _ (let z : SFits w32 c.stroke_at.result = record { sfits = c.stroke_at.type_inv } in to_z-of_z z ∙ c.stroke_at.ensures) c.takes.ensures

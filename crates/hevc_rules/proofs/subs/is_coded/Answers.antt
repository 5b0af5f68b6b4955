use native.Mathlib.Omega.{arith}
use Rattle.hevc_rules.specs.SmallLaws.{square_small, grid_inside}
use Rattle.hevc_rules.proofs.subs.is_coded.Goals as goal

-- `is_coded` meets its contract. Assumes nothing.
pub overflow_mul-ys : goal.overflow_mul-ys
overflow_mul-ys c = let a = c.args in omega (arith, grid_inside a.coded.now a.w a.xs a.ys c.if-xs-w.true c.if-ys-w.true, square_small a.w c.requires.1)

pub overflow_add-ys : goal.overflow_add-ys
overflow_add-ys c = let a = c.args in omega (arith, grid_inside a.coded.now a.w a.xs a.ys c.if-xs-w.true c.if-ys-w.true, square_small a.w c.requires.1)

pub overflow_cast-ys : goal.overflow_cast-ys
overflow_cast-ys c = let a = c.args in omega (arith, grid_inside a.coded.now a.w a.xs a.ys c.if-xs-w.true c.if-ys-w.true, square_small a.w c.requires.1)

pub bounds-coded-ys : goal.bounds-coded-ys
bounds-coded-ys c = let a = c.args in omega (arith, grid_inside a.coded.now a.w a.xs a.ys c.if-xs-w.true c.if-ys-w.true, c.requires.0)

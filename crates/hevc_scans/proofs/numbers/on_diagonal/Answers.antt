use Prim.Native.Nat.{◌+◌}
use native.Mathlib.Omega.{arith}
use Rattle.hevc_scans.specs.NumberLaws.{triangle_small, small_product, square_pos, back_fits, front_is, back_is}
use Rattle.hevc_scans.proofs.numbers.on_diagonal.Goals as goal

pub overflow_add-result : goal.overflow_add-result
overflow_add-result c = omega (arith, c.triangle_of.ensures, triangle_small (c.args.x + c.args.y) (omega arith))

pub returns-then-d-w : goal.returns-then-d-w
returns-then-d-w c = let a = c.args in front_is a.w a.x a.y c.triangle_of.result c.if-d-w.true c.triangle_of.ensures

pub overflow_mul-result : goal.overflow_mul-result
overflow_mul-result c = let a = c.args in let h = c.requires in omega (arith, small_product a.w a.w h.0 h.0)

pub overflow_sub-result : goal.overflow_sub-result
overflow_sub-result c = square_pos c.args.w c.args.x c.requires.1

pub overflow_add-result-2 : goal.overflow_add-result-2
overflow_add-result-2 c = let a = c.args in omega (arith, back_fits a.w a.x a.y c.triangle_of-2.result c.requires.1 c.requires.2 c.if-d-w.false c.triangle_of-2.ensures, small_product a.w a.w c.requires.0 c.requires.0)

pub overflow_sub-result-4 : goal.overflow_sub-result-4
overflow_sub-result-4 c = let a = c.args in back_fits a.w a.x a.y c.triangle_of-2.result c.requires.1 c.requires.2 c.if-d-w.false c.triangle_of-2.ensures

pub returns : goal.returns
returns c = let a = c.args in back_is a.w a.x a.y c.triangle_of-2.result c.if-d-w.false c.triangle_of-2.ensures

use native.Mathlib.Omega.{arith}
use Prim.Native.Nat.{◌*◌}
use Rattle.hevc_residual.specs.Wanted.{area}
use Rattle.press_strokes.specs.Advice.{is_taken}
use Rattle.press_strokes.specs.FirstLaws.{none_begins, none_on, first_found, first_none}
use Rattle.press_strokes.specs.StrokeLaws.{area_few}
use mathlib.Core.Path.{sym, ◌∙◌}
use Rattle.press_strokes.proofs.search.first_taken.Goals as goal

pub area_of-n-requires : goal.area_of-n-requires
area_of-n-requires c = (c.requires.0.least, c.requires.0.most)

pub overflow_mul-n : goal.overflow_mul-n
overflow_mul-n c = omega (arith, c.area_of-n.ensures, area_few c.args.p c.requires.0.most)

pub loop-c-init : goal.loop-c-init
loop-c-init c = let a = c.args in none_begins (is_taken a.p a.levels.now)

pub is_taken-requires : goal.is_taken-requires
is_taken-requires c = (c.requires.0, omega (arith, c.area_of-n.ensures), c.requires.1)

pub returns-then-is_taken : goal.returns-then-is_taken
returns-then-is_taken c =
    let a = c.args in
    first_found (is_taken a.p a.levels.now) (3 * area a.p) c.loop-c.c c.loop-c.invariant (omega (arith, c.area_of-n.ensures)) (sym c.is_taken.ensures ∙ c.if-is_taken.true)

pub loop-c-preserved : goal.loop-c-preserved
loop-c-preserved c =
    let a = c.args in
    none_on (is_taken a.p a.levels.now) c.loop-c.c c.loop-c.invariant (sym c.is_taken.ensures ∙ c.if-is_taken.false)

pub returns : goal.returns
returns c =
    let a = c.args in
    first_none (is_taken a.p a.levels.now) (3 * area a.p) c.loop-c.c _ c.loop-c.invariant (omega (arith, c.area_of-n.ensures)) (omega (arith, c.area_of-n.ensures)) (omega (arith, c.area_of-n.ensures))

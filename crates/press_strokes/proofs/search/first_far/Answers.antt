use native.Mathlib.Omega.{arith}
use Rattle.press_strokes.specs.Advice.{is_far_by}
use Rattle.press_strokes.specs.FirstLaws.{none_begins, none_on, first_found, first_none}
use mathlib.Core.Path.{sym, refl, ◌∙◌}
use Rattle.press_strokes.proofs.search.first_far.Goals as goal

pub loop-i-init : goal.loop-i-init
loop-i-init c = let a = c.args in none_begins (is_far_by a.t a.levels.now)

pub far_at-requires : goal.far_at-requires
far_at-requires c = (c.requires.0, omega (arith, c.requires.1))

pub returns-then-far_at : goal.returns-then-far_at
returns-then-far_at c =
    let a = c.args in
    first_found (is_far_by a.t a.levels.now) a.n c.loop-i.i c.loop-i.invariant (omega arith) (sym c.far_at.ensures ∙ c.if-far_at.true)

pub loop-i-preserved : goal.loop-i-preserved
loop-i-preserved c =
    let a = c.args in
    none_on (is_far_by a.t a.levels.now) c.loop-i.i c.loop-i.invariant (sym c.far_at.ensures ∙ c.if-far_at.false)

pub returns : goal.returns
returns c = let a = c.args in first_none (is_far_by a.t a.levels.now) a.n c.loop-i.i a.n c.loop-i.invariant (omega arith) (omega arith) refl

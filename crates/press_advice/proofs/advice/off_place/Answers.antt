use Prim.Native.Nat.{ℕ, ◌≤◌}
use mathlib.Core.Path.{sym, subst, ◌∙◌}
use lib.ListN.{length}
use lib.Seq.{length-take-le}
use Rattle.press_advice.specs.AdviceLaws.{off_found}
use Rattle.press_advice.proofs.advice.off_place.Goals as goal

-- `off_place` meets its contract. Assumes nothing.
pub area_of-requires : goal.area_of-requires
area_of-requires c = let a = c.requires.0 in (a.least, a.most)

pub slice_bounds-all-end : goal.slice_bounds-all-end
slice_bounds-all-end c = subst (λ (k : ℕ). k ≤ length c.args.levels.now) (sym c.area_of.ensures) c.requires.2

pub slice_bounds-first_off-end : goal.slice_bounds-first_off-end
slice_bounds-first_off-end c = sym (length-take-le c.area_of.result c.args.levels.now (subst (λ (k : ℕ). k ≤ length c.args.levels.now) (sym c.area_of.ensures) c.requires.2))

pub first_off-i-requires : goal.first_off-i-requires
first_off-i-requires c = (c.requires.0, length-take-le c.area_of.result c.args.levels.now (subst (λ (k : ℕ). k ≤ length c.args.levels.now) (sym c.area_of.ensures) c.requires.2) ∙ c.area_of.ensures)

pub returns-then-i-grid : goal.returns-then-i-grid
returns-then-i-grid c = off_found c.args.p c.args.levels.now _ _ _ _ _ c.requires.1 c.area_of.ensures c.first_off-i.ensures c.grid.ensures.0 c.if-i-grid.true c.corner_at-c.ensures.1

use mathlib.Core.Path.{sym, ap, subst, ◌∙◌}
use Prim.Native.Nat.{ℕ, ◌≤◌}
use lib.ListN.{length, take}
use lib.Seq.{length-take-le}
use Rattle.hevc_residual.specs.Refusal.{write_refusal}
use Rattle.press_strokes.specs.Advice.{drawn}
use Rattle.press_strokes.proofs.search.refusal.Goals as goal

-- `refusal` meets its contract. Assumes nothing.
pub area_of-requires : goal.area_of-requires
area_of-requires c = let a = c.requires.0 in (a.least, a.most)

pub slice_bounds-all-end : goal.slice_bounds-all-end
slice_bounds-all-end c = subst (λ (k : ℕ). k ≤ length c.args.levels.now) (sym c.area_of.ensures) c.requires.1

pub slice_bounds-write_refusal-end : goal.slice_bounds-write_refusal-end
slice_bounds-write_refusal-end c = sym (length-take-le c.area_of.result c.args.levels.now (subst (λ (k : ℕ). k ≤ length c.args.levels.now) (sym c.area_of.ensures) c.requires.1))

pub write_refusal-requires : goal.write_refusal-requires
write_refusal-requires c = (c.requires.0, length-take-le c.area_of.result c.args.levels.now (subst (λ (k : ℕ). k ≤ length c.args.levels.now) (sym c.area_of.ensures) c.requires.1) ∙ c.area_of.ensures)

pub returns : goal.returns
returns c = let a = c.args in c.write_refusal.ensures ∙ ap (λ (k : ℕ). write_refusal a.p (drawn (take k a.levels.now))) c.area_of.ensures

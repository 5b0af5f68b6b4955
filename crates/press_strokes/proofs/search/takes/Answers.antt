use mathlib.Core.Path.{sym, ap, subst, ◌∙◌}
use Prim.Native.Nat.{ℕ, ◌≤◌}
use lib.IntN.{ℤ}
use lib.Dec.{eqb}
use lib.ListN.{set, take, length-set}
use mir.Facts.{to_z-of_z}
use Rattle.hevc_residual.specs.Wanted.{area}
use Rattle.hevc_residual.specs.Refusal.{write_refusal}
use Rattle.press_strokes.specs.Advice.{drawn}
use Rattle.press_strokes.proofs.search.takes.Goals as goal

pub refusal-requires : goal.refusal-requires
refusal-requires c = (c.requires.0, subst (λ (k : ℕ). area c.args.p ≤ k) (sym (length-set c.args.levels.now c.args.i _)) c.requires.2)

pub returns : goal.returns
returns c = let a = c.args in ap (λ (k : ℕ). eqb k 0) (c.refusal.ensures ∙ ap (λ (x : ℤ). write_refusal a.p (drawn (take (area a.p) (set a.levels.now a.i x)))) (to_z-of_z c.ranges.v))

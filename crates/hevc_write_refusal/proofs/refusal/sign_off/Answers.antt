use mathlib.Core.Path.{ap, ap₂, ◌∙◌}
use mathlib.Core.Bool.{Bool, not, beq}
use Prim.Native.Nat.{ℕ}
use lib.IntN.{pos}
use lib.ListN.{get_or}
use mir.Syntax.{w32}
use mir.Val.{SFits}
use mir.Facts.{to_z-of_z}
use Rattle.bins.specs.Readers.{odd}
use Rattle.hevc_residual.specs.Wanted.{negative}
use Rattle.hevc_write_refusal.proofs.refusal.sign_off.Goals as goal

pub returns : goal.returns
returns c =
    let l = c.args.levels.now in
    let f : SFits w32 (get_or l c.lowest-low.result (pos 0)) = record { sfits = c.is_negative-arg-1.given } in
    ap₂ (λ (b : Bool) (m : ℕ). not (beq b (odd m)))
    (c.is_negative-sign.ensures ∙ ap negative (to_z-of_z f) ∙ ap (λ n. negative (get_or l n (pos 0))) c.lowest-low.ensures.0)
    c.sum_of.ensures

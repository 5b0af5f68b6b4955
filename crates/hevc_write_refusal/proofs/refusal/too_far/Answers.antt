use mathlib.Core.Path.{sym, ap, subst, ◌∙◌}
use Prim.Native.Nat.{◌+◌}
use lib.Dec.{leb}
use native.Mathlib.Omega.{arith}
use lib.IntN.{pos}
use lib.ListN.{get_or}
use mir.Syntax.{w32}
use mir.Val.{SFits}
use mir.Facts.{to_z-of_z}
use Rattle.hevc_write_refusal.specs.RefusalAgree.{reach_of}
use Rattle.hevc_write_refusal.specs.RefusalLaws.{Reaches, reaches_begins, reaches_on, reaches_ends, two_shift}
use Rattle.hevc_write_refusal.proofs.refusal.too_far.Goals as goal

pub loop-level-init : goal.loop-level-init
loop-level-init c = reaches_begins c.args.t c.args.block.now

pub loop-level-preserved : goal.loop-level-preserved
loop-level-preserved c =
    let a = c.args in
    let l = a.block.now in
    let f : SFits w32 (get_or l c.loop-level.level-index (pos 0)) = record { sfits = c.reach-arg-1.given } in
    subst (λ m. Reaches a.t l (c.loop-level.level-index + 1) m) (sym c.max-most.ensures)
    (reaches_on a.t l c.loop-level.level-index c.loop-level.most c.loop-level.invariant (omega arith) c.reach.result (c.reach.ensures ∙ ap reach_of (to_z-of_z f)))

pub returns : goal.returns
returns c = ap (λ n. leb n c.loop-level.most) (two_shift c.args.t c.requires) ∙ reaches_ends c.args.t c.args.block.now c.loop-level.level-index c.loop-level.most c.loop-level.invariant (omega arith)

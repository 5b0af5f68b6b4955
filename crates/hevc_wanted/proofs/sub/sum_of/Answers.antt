use mir.Facts.{to_z-of_z}
use mathlib.Core.Path.{ap, ◌∙◌}
use lib.IntN.{pos, nat_abs}
use lib.ListN.{get_or}
use mir.Syntax.{w32}
use mir.Val.{SFits}
use mir.Facts.{to_z-of_z}
use native.Mathlib.Omega.{arith}
use Rattle.hevc_wanted.specs.ShownLaws.{summed_begins, summed_on, summed_ends}
use Rattle.hevc_wanted.proofs.sub.sum_of.Goals as goal

pub loop-level-init : goal.loop-level-init
loop-level-init c = summed_begins _

pub returns : goal.returns
returns c = summed_ends _ c.loop-level.sum c.loop-level.level-index c.loop-level.invariant (omega arith)

pub loop-level-preserved : goal.loop-level-preserved
loop-level-preserved c =
    let l = c.args.levels.now in
    let f : SFits w32 (get_or l c.loop-level.level-index (pos 0)) = record { sfits = c.magnitude-arg-1.given } in
    summed_on l c.loop-level.sum c.loop-level.level-index c.magnitude.result c.loop-level.invariant (omega arith) (c.magnitude.ensures ∙ ap nat_abs (to_z-of_z f))
    (omega (arith, c.magnitude.type_inv))

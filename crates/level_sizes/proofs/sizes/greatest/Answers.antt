use Prim.Native.Nat.{◌+◌, max}
use mathlib.Core.Path.{ap, ◌∙◌}
use native.Mathlib.Omega.{arith}
use lib.IntN.{pos, nat_abs}
use lib.ListN.{get_or, drop}
use mir.Syntax.{w32}
use mir.Val.{SFits}
use mir.Facts.{to_z-of_z}
use Rattle.trees.specs.Levels.{greatest_of}
use Rattle.trees.specs.GreatestLaws.{greatest_begins, greatest_on, greatest_ends}
use Rattle.level_sizes.proofs.sizes.greatest.Goals as goal

pub loop-level-init : goal.loop-level-init
loop-level-init c = greatest_begins c.args.block.now

pub loop-level-preserved : goal.loop-level-preserved
loop-level-preserved c =
    let l = c.args.block.now in
    let f : SFits w32 (get_or l c.loop-level.level-index (pos 0)) = record { sfits = c.magnitude-arg-1.given } in
    ap (λ k. max k (greatest_of (drop (c.loop-level.level-index + 1) l))) c.larger-most.ensures ∙ greatest_on l c.loop-level.most c.loop-level.level-index c.magnitude.result (omega arith) c.loop-level.invariant (c.magnitude.ensures ∙ ap nat_abs (to_z-of_z f))

pub returns : goal.returns
returns c = greatest_ends c.args.block.now c.loop-level.most c.loop-level.level-index (omega arith) c.loop-level.invariant

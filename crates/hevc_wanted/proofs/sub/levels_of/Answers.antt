use mathlib.Core.Path.{refl, ◌∙◌}
use native.Mathlib.Omega.{arith}
use mir.Syntax.{w32}
use mir.Val.{SFits}
use mir.Facts.{to_z-of_z}
use Rattle.hevc_residual.specs.Scan.{spot}
use Rattle.hevc_wanted.specs.ShownLaws.{level_in, taken_begins, taken_more, taken_ends}
use Rattle.hevc_wanted.proofs.sub.levels_of.Goals as goal

pub loop-k-init : goal.loop-k-init
loop-k-init c = taken_begins _ _ refl

pub returns : goal.returns
returns c =
    let a = c.args in
    taken_ends a.p (spot a.xs a.ys) a.block.now c.loop-k.level-items c.loop-k.k c.loop-k.invariant (omega arith)

pub loop-k-preserved : goal.loop-k-preserved
loop-k-preserved c =
    let a = c.args in
    let f : SFits w32 c.level_at.result = record { sfits = c.level_at.type_inv } in
    taken_more (level_in a.p (spot a.xs a.ys) a.block.now) c.loop-k.level-items c.loop-k.k _ c.loop-k.invariant (omega arith) (to_z-of_z f ∙ c.level_at.ensures)

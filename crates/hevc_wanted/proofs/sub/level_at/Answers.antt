use mathlib.Core.Path.{ap, ◌∙◌}
use native.Mathlib.Omega.{arith}
use lib.IntN.{pos}
use lib.ListN.{get_or}
use mir.Syntax.{w32}
use mir.Val.{SFits}
use mir.Facts.{to_z-of_z}
use Rattle.hevc_wanted.proofs.sub.level_at.Goals as goal

pub bounds-block-at : goal.bounds-block-at
bounds-block-at c = omega (arith, c.cell_of-c.ensures.in_block)

pub returns : goal.returns
returns c =
    let a = c.args in
    let f : SFits w32 (get_or a.block.now c.cell_of-c.result.at (pos 0)) = record { sfits = c.result-1.given } in
    to_z-of_z f ∙ ap (λ k. get_or a.block.now k (pos 0)) c.cell_of-c.ensures.is_cell

use native.Mathlib.Omega.{arith}
use mathlib.Core.Path.{ap, ◌∙◌}
use lib.IntN.{pos, nat_abs}
use lib.ListN.{get_or}
use mir.Syntax.{w32}
use mir.Val.{SFits}
use mir.Facts.{to_z-of_z}
use Rattle.hevc_levels_pen.specs.GreaterPuts.{big_one, big_none}
use Rattle.hevc_levels_pen.proofs.greater.is_big.Goals as goal

pub returns-then-magnitude-gt1 : goal.returns-then-magnitude-gt1
returns-then-magnitude-gt1 c =
    let l = c.args.levels.now in
    let k = c.args.k in
    let f : SFits w32 (get_or l k (pos 0)) = record { sfits = c.magnitude-arg-1.given } in
    (big_one (get_or l k (pos 0)) c.magnitude.result (c.magnitude.ensures ∙ ap nat_abs (to_z-of_z f)) (omega arith), omega arith)

pub returns-else-magnitude-gt1 : goal.returns-else-magnitude-gt1
returns-else-magnitude-gt1 c =
    let l = c.args.levels.now in
    let k = c.args.k in
    let f : SFits w32 (get_or l k (pos 0)) = record { sfits = c.magnitude-arg-1.given } in
    (big_none (get_or l k (pos 0)) c.magnitude.result (c.magnitude.ensures ∙ ap nat_abs (to_z-of_z f)) (omega arith), omega arith)

use native.Mathlib.Omega.{arith}
use mathlib.Core.Path.{◌≡◌, subst}
use mathlib.Core.Bool.{true, false}
use lib.IntN.{ℤ, pos}
use lib.Signed.{lt_z}
use lib.ListN.{get_or}
use mir.Syntax.{w32}
use mir.Val.{SFits}
use mir.Facts.{to_z-of_z}
use Rattle.hevc_levels_pen.specs.SignsPuts.{minus_one, plus_none}
use Rattle.hevc_levels_pen.proofs.signs.sign_at.Goals as goal

pub returns-then-levels-k-lt0 : goal.returns-then-levels-k-lt0
returns-then-levels-k-lt0 c =
    let l = c.args.levels.now in
    let k = c.args.k in
    let f : SFits w32 (get_or l k (pos 0)) = record { sfits = c.t6-1.given } in
    (minus_one (get_or l k (pos 0)) (subst (λ (z : ℤ). lt_z z (pos 0) ≡ true) (to_z-of_z f) c.if-levels-k-lt0.true), omega arith)

pub returns-else-levels-k-lt0 : goal.returns-else-levels-k-lt0
returns-else-levels-k-lt0 c =
    let l = c.args.levels.now in
    let k = c.args.k in
    let f : SFits w32 (get_or l k (pos 0)) = record { sfits = c.t6-1.given } in
    (plus_none (get_or l k (pos 0)) (subst (λ (z : ℤ). lt_z z (pos 0) ≡ false) (to_z-of_z f) c.if-levels-k-lt0.false), omega arith)

use mathlib.Core.Path.{ap, ◌∙◌}
use Prim.Native.Nat.{◌-◌}
use lib.IntN.{pos, nat_abs}
use lib.Dec.{ltb}
use lib.ListN.{get_or}
use mir.Syntax.{w32}
use mir.Val.{SFits}
use mir.Facts.{to_z-of_z}
use Rattle.bins.specs.Engine.{bit_no}
use native.Mathlib.Omega.{arith}
use Rattle.hevc_wanted.specs.Shown.{is_level}
use Rattle.hevc_wanted.specs.ShownLaws.{listed_begins, listed_on, listed_ends}
use Rattle.hevc_wanted.proofs.sub.places_of.Goals as goal

pub loop-k-init : goal.loop-k-init
loop-k-init c = listed_begins _

pub appended-s-requires : goal.appended-s-requires
appended-s-requires c =
    let i = c.loop-k.invariant in
    (i.packs, omega (arith, i.room), omega (arith, i.room), c.is_level.ensures.1)

pub loop-k-preserved : goal.loop-k-preserved
loop-k-preserved c =
    let l = c.args.levels.now in
    let f : SFits w32 (get_or l (c.loop-k.k - 1) (pos 0)) = record { sfits = c.is_level-arg-1.given } in
    listed_on (is_level l) c.loop-k.s c.loop-k.k c.loop-k.invariant (omega arith) c.is_level.result
    (c.is_level.ensures.0 ∙ ap (λ v. bit_no (ltb 0 (nat_abs v))) (to_z-of_z f)) c.appended-s.result c.appended-s.ensures

pub returns : goal.returns
returns c = listed_ends _ c.loop-k.s c.loop-k.k c.loop-k.invariant (omega arith)

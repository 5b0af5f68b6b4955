use mir.Facts.{to_z-of_z}
use mir.Val.{SFits}
use mir.Syntax.{w32}
use lib.ListN.{get_or}
use lib.IntN.{pos, nat_abs}
use mathlib.Core.Path.{ap, ◌∙◌}
use Prim.Native.Nat.{◌-◌}
use native.Mathlib.Omega.{arith}
use Rattle.figures.specs.CodeLaws.{adding_begins, adding_on, adding_ends}
use Rattle.figures_add.proofs.add.add_levels.Goals as goal

pub loop-i-init : goal.loop-i-init
loop-i-init c =
    let a = c.args in
    let l = a.levels.now in
    adding_begins l a.blocks.now a.sums.now a.greatests.now a.n

pub loop-i-preserved : goal.loop-i-preserved
loop-i-preserved c =
    let a = c.args in
    let l = a.levels.now in
    let f : SFits w32 (get_or l c.loop-i.i (pos 0)) = record { sfits = c.magnitude-arg-1.given } in
    adding_on l a.blocks.now a.sums.now a.greatests.now a.n c.loop-i.blocks c.loop-i.sums c.loop-i.greatests c.loop-i.i c.loop-i.invariant (omega arith)
    c.magnitude-m.result c.one_if.result c.wide.result c.capped32-b.result c.capped64-s.result c.larger-g.result
    (c.magnitude-m.ensures ∙ ap nat_abs (to_z-of_z f)) c.one_if.ensures c.wide.ensures.0 c.capped32-b.ensures
    c.capped64-s.ensures c.larger-g.ensures

pub returns : goal.returns
returns c =
    let a = c.args in
    let l = a.levels.now in
    adding_ends l a.blocks.now a.sums.now a.greatests.now a.n c.loop-i.blocks c.loop-i.sums c.loop-i.greatests c.loop-i.i c.loop-i.invariant (omega arith)

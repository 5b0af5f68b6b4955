use Prim.Native.Nat.{◌-◌}
use native.Mathlib.Omega.{arith}
use Rattle.figures.specs.CodeLaws.{turning_begins, turning_on, turning_ends, join_blocks, join_sums, join_greatests}
use Rattle.figures_merge.proofs.merge.join_places.Goals as goal

pub loop-i-init : goal.loop-i-init
loop-i-init c =
    let a = c.args in (
      turning_begins (join_blocks a.b.now) a.blocks.now a.n,
      turning_begins (join_sums a.s.now) a.sums.now a.n,
      turning_begins (join_greatests a.g.now) a.greatests.now a.n,
    )

pub loop-i-preserved : goal.loop-i-preserved
loop-i-preserved c =
    let a = c.args in (
      turning_on (join_blocks a.b.now) a.blocks.now a.n c.loop-i.blocks c.loop-i.i c.capped32-x.result c.loop-i.invariant.0 (omega arith)
          c.capped32-x.ensures,
      turning_on (join_sums a.s.now) a.sums.now a.n c.loop-i.sums c.loop-i.i c.capped64-y.result c.loop-i.invariant.1 (omega arith)
          c.capped64-y.ensures,
      turning_on (join_greatests a.g.now) a.greatests.now a.n c.loop-i.greatests c.loop-i.i c.larger-z.result c.loop-i.invariant.2 (omega arith)
          c.larger-z.ensures,
    )

pub returns : goal.returns
returns c =
    let a = c.args in (
      turning_ends (join_blocks a.b.now) a.blocks.now a.n c.loop-i.blocks c.loop-i.i c.loop-i.invariant.0 (omega arith),
      turning_ends (join_sums a.s.now) a.sums.now a.n
          c.loop-i.sums c.loop-i.i c.loop-i.invariant.1 (omega arith),
      turning_ends (join_greatests a.g.now) a.greatests.now a.n c.loop-i.greatests c.loop-i.i c.loop-i.invariant.2 (omega arith),
    )

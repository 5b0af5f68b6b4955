use borrow.Author.Tests.{not-true}
use native.Mathlib.Omega.{arith}
use Rattle.hevc_write_refusal.specs.RefusalLaws.{nothing_hidden, agreeing_begins, agreeing_on, agreeing_not, agreeing_ends}
use Rattle.hevc_write_refusal.proofs.refusal.any_disagrees.Goals as goal

pub inner_order-order-requires : goal.inner_order-order-requires
inner_order-order-requires c = c.requires.0.scan

pub outer_order-outer-requires : goal.outer_order-outer-requires
outer_order-outer-requires c = let a = c.requires.0 in (a.least, a.most, a.scan)

pub grid-i-end-requires : goal.grid-i-end-requires
grid-i-end-requires c = let a = c.requires.0 in (a.least, a.most)

pub loop-i-init : goal.loop-i-init
loop-i-init c = let a = c.args in agreeing_begins a.p a.h a.block.now

pub disagrees_at-requires : goal.disagrees_at-requires
disagrees_at-requires c = (
  c.inner_order-order.ensures,
  c.outer_order-outer.ensures,
  c.requires.0,
  c.requires.1,
  omega (arith, c.loop-i.auto.i-end, c.grid-i-end.ensures.0),
)

pub returns-then-disagrees_at : goal.returns-then-disagrees_at
returns-then-disagrees_at c =
    let a = c.args in
    let k = c.grid-i-end.ensures.0 in
    agreeing_not a.p c.requires.0 a.h a.block.now c.loop-i.i c.loop-i.invariant (omega (arith, k, c.loop-i.auto.i-end))
    c.disagrees_at.result c.disagrees_at.ensures c.if-disagrees_at.true

pub loop-i-preserved : goal.loop-i-preserved
loop-i-preserved c =
    let a = c.args in
    let k = c.grid-i-end.ensures.0 in
    agreeing_on a.p c.requires.0 a.h a.block.now c.loop-i.i c.loop-i.invariant (omega (arith, k, c.loop-i.auto.i-end))
    c.disagrees_at.result c.disagrees_at.ensures c.if-disagrees_at.false

pub returns : goal.returns
returns c =
    let a = c.args in
    agreeing_ends a.p c.requires.0 a.h a.block.now c.loop-i.i c.loop-i.invariant (omega (arith, c.loop-i.auto.i-end, c.grid-i-end.ensures.0))

pub returns-then-not-p : goal.returns-then-not-p
returns-then-not-p c = let a = c.args in λ w g. nothing_hidden a.p w _ _ (not-true _ c.if-not-p.true)

use native.Mathlib.Omega.{arith}
use Prim.Native.Nat.{◌-◌, ◌^◌}
use Rattle.press_strokes.specs.Advice.{is_off_in}
use Rattle.press_strokes.specs.FirstLaws.{none_begins, none_on, first_found, first_none}
use mathlib.Core.Path.{sym, ◌∙◌}
use Rattle.press_strokes.proofs.search.first_off.Goals as goal

pub inner_order-order-requires : goal.inner_order-order-requires
inner_order-order-requires c = c.requires.0.scan

pub outer_order-outer-requires : goal.outer_order-outer-requires
outer_order-outer-requires c = let a = c.requires.0 in (a.least, a.most, a.scan)

pub grid-n-requires : goal.grid-n-requires
grid-n-requires c = let a = c.requires.0 in (a.least, a.most)

pub loop-i-init : goal.loop-i-init
loop-i-init c = let a = c.args in none_begins (is_off_in a.p a.block.now)

pub off_at-requires : goal.off_at-requires
off_at-requires c = (
  c.inner_order-order.ensures,
  c.outer_order-outer.ensures,
  c.requires.0,
  c.requires.1,
  omega (arith, c.grid-n.ensures.0),
)

pub returns-then-off_at : goal.returns-then-off_at
returns-then-off_at c =
    let a = c.args in
    first_found (is_off_in a.p a.block.now) (4 ^ (a.p.log2 - 2)) c.loop-i.i c.loop-i.invariant (omega (arith, c.grid-n.ensures.0))
    (sym c.off_at.ensures ∙ c.if-off_at.true)

pub loop-i-preserved : goal.loop-i-preserved
loop-i-preserved c =
    let a = c.args in
    none_on (is_off_in a.p a.block.now) c.loop-i.i c.loop-i.invariant (sym c.off_at.ensures ∙ c.if-off_at.false)

pub returns : goal.returns
returns c =
    let a = c.args in
    first_none (is_off_in a.p a.block.now) (4 ^ (a.p.log2 - 2)) c.loop-i.i _ c.loop-i.invariant (omega (arith, c.grid-n.ensures.0)) (omega (arith, c.grid-n.ensures.0)) c.grid-n.ensures.0

use Rattle.bins.specs.StepLaws.{passed_on}
use Rattle.tree_shapes.specs.ShapeLaws.{flag_at, count_counter, count_begins, count_most, count_refused, count_zero, count_one}
use Rattle.trees.specs.Shapes.{first_then}
use Rattle.trees.specs.ShapeLaws.{then_below, then_later}
use mathlib.Core.Path.{refl, ◌∙◌}
use native.Mathlib.Omega.{arith}
use Rattle.tree_shapes.proofs.count.Goals as goal

pub loop-g-init : goal.loop-g-init
loop-g-init c =
    let a = c.args in
    (count_begins (count_counter (first_then a.first a.later)) a.list a.bytes.now a.most a.x a.contexts.now c.requires.0.0, refl)

pub context_bin-requires : goal.context_bin-requires
context_bin-requires c =
    let h = c.requires in
    let a = c.args in
    let i = c.loop-g.invariant.0 in
    let b = then_below a.first a.later _ c.loop-g.g h.1 h.2 in
    (i.kept h.0, omega (arith, b, c.loop-g.invariant.1, i.long), omega (arith, b, c.loop-g.invariant.1, h.3), h.5)

pub shape_of-contexts-in_err-b : goal.shape_of-contexts-in_err-b
shape_of-contexts-in_err-b c = c.contexts-1.given ∙ c.loop-g.invariant.0.long

pub returns-in_err-b : goal.returns-in_err-b
returns-in_err-b c =
    let a = c.args in
    rw (passed_on c.from_residual.result _ c.from_residual.ensures.1)
    (count_refused (count_counter (first_then a.first a.later)) a.list a.bytes.now a.most a.x a.contexts.now c.loop-g.y c.loop-g.contexts c.loop-g.g c.loop-g.invariant.0 (λ q. omega arith) c.context_bin.result c.context_bin.new.contexts (flag_at a.list a.bytes.now c.loop-g.y c.loop-g.contexts c.context_bin.result c.context_bin.new.contexts _ _ c.loop-g.invariant.1 c.context_bin.ensures) _ c.in_err-b.was)

pub loop-g-preserved : goal.loop-g-preserved
loop-g-preserved c =
    let a = c.args in
    (count_one (count_counter (first_then a.first a.later)) a.list a.bytes.now a.most a.x a.contexts.now c.loop-g.y c.loop-g.contexts c.loop-g.g c.loop-g.invariant.0 (λ q. omega arith) c.context_bin.result c.context_bin.new.contexts (flag_at a.list a.bytes.now c.loop-g.y c.loop-g.contexts c.context_bin.result c.context_bin.new.contexts _ _ c.loop-g.invariant.1 c.context_bin.ensures) _ _ c.in_ok-b.was c.if-b-eq0.false c.contexts-1.given, then_later a.first a.later c.loop-g.g)

pub shape_of-contexts : goal.shape_of-contexts
shape_of-contexts c = c.loop-g.invariant.0.long

pub returns : goal.returns
returns c =
    let a = c.args in
    count_most (count_counter (first_then a.first a.later)) a.list a.bytes.now a.most a.x a.contexts.now c.loop-g.y c.loop-g.contexts c.loop-g.g c.loop-g.invariant.0 (omega arith)

pub shape_of-contexts-then-b-eq0 : goal.shape_of-contexts-then-b-eq0
shape_of-contexts-then-b-eq0 c = c.contexts-1.given ∙ c.loop-g.invariant.0.long

pub returns-then-b-eq0 : goal.returns-then-b-eq0
returns-then-b-eq0 c =
    let a = c.args in
    count_zero (count_counter (first_then a.first a.later)) a.list a.bytes.now a.most a.x a.contexts.now c.loop-g.y c.loop-g.contexts c.loop-g.g c.loop-g.invariant.0 (λ q. omega arith) c.context_bin.result c.context_bin.new.contexts (flag_at a.list a.bytes.now c.loop-g.y c.loop-g.contexts c.context_bin.result c.context_bin.new.contexts _ _ c.loop-g.invariant.1 c.context_bin.ensures) _ _ c.in_ok-b.was c.if-b-eq0.true

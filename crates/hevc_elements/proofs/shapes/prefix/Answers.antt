use native.Mathlib.Omega.{arith}
use lib.Pow.{shr_le}
use Rattle.bins.specs.StepLaws.{passed_on}
use Rattle.tree_shapes.specs.ShapeLaws.{prefix_counter, count_begins, count_most, count_refused, count_zero, count_one, flag_long}
use Rattle.hevc_elements.specs.ShapeLaws.{flag_plain, prefix_says}
use Rattle.hevc_elements.proofs.shapes.prefix.Goals as goal
use Rattle.bins.specs.Sources.{got}

pub loop-g-init : goal.loop-g-init
loop-g-init c =
    let a = c.args in
    count_begins (prefix_counter a.base a.shift) a.list a.bytes.now a.most a.x a.contexts.now c.requires.0.0

pub overflow_shr-number : goal.overflow_shr-number
overflow_shr-number c = omega (arith, c.requires.3)

pub overflow_cast-number : goal.overflow_cast-number
overflow_cast-number c = omega (arith, shr_le c.loop-g.g c.args.shift, c.requires.2)

pub overflow_add-number : goal.overflow_add-number
overflow_add-number c = omega (arith, shr_le c.loop-g.g c.args.shift, c.requires.1)

pub context_bin-requires : goal.context_bin-requires
context_bin-requires c =
    let h = c.requires in
    let i = c.loop-g.invariant in
    (i.kept h.0, omega (arith, shr_le c.loop-g.g c.args.shift, h.1, i.few), h.4)

pub returns-in_err-b : goal.returns-in_err-b
returns-in_err-b c =
    λ w.
    let a = c.args in
    prefix_says a.list a.bytes.now a.x a.contexts.now c.from_residual.result c.context_bin.new.contexts w a.base a.shift a.most
    (rw (passed_on c.from_residual.result _ c.from_residual.ensures.1) (count_refused (prefix_counter a.base a.shift) a.list a.bytes.now a.most a.x a.contexts.now c.loop-g.y c.loop-g.contexts c.loop-g.g c.loop-g.invariant (λ q. omega arith) c.context_bin.result c.context_bin.new.contexts (flag_plain a.list a.bytes.now _ c.loop-g.y c.loop-g.contexts c.context_bin.result c.context_bin.new.contexts c.context_bin.ensures) _ c.in_err-b.was))

pub loop-g-preserved : goal.loop-g-preserved
loop-g-preserved c =
    let a = c.args in
    count_one (prefix_counter a.base a.shift) a.list a.bytes.now a.most a.x a.contexts.now c.loop-g.y c.loop-g.contexts c.loop-g.g c.loop-g.invariant (λ q. omega arith) c.context_bin.result c.context_bin.new.contexts (flag_plain a.list a.bytes.now _ c.loop-g.y c.loop-g.contexts c.context_bin.result c.context_bin.new.contexts c.context_bin.ensures) _ _ c.in_ok-b.was c.if-b-eq0.false (flag_long a.list a.bytes.now c.loop-g.y c.loop-g.contexts c.context_bin.result c.context_bin.new.contexts _ _ _ (flag_plain a.list a.bytes.now _ c.loop-g.y c.loop-g.contexts c.context_bin.result c.context_bin.new.contexts c.context_bin.ensures) c.in_ok-b.was (c.loop-g.invariant.kept c.requires.0))

pub returns : goal.returns
returns c = λ w. let a = c.args in prefix_says a.list a.bytes.now a.x a.contexts.now (got a.most c.loop-g.y) c.loop-g.contexts w a.base a.shift a.most (count_most (prefix_counter a.base a.shift) a.list a.bytes.now a.most a.x a.contexts.now c.loop-g.y c.loop-g.contexts c.loop-g.g c.loop-g.invariant (omega arith))

pub returns-then-b-eq0 : goal.returns-then-b-eq0
returns-then-b-eq0 c = λ w. let a = c.args in prefix_says a.list a.bytes.now a.x a.contexts.now (got c.loop-g.g c.in_ok-b.field-0.next) c.context_bin.new.contexts w a.base a.shift a.most (count_zero (prefix_counter a.base a.shift) a.list a.bytes.now a.most a.x a.contexts.now c.loop-g.y c.loop-g.contexts c.loop-g.g c.loop-g.invariant (λ q. omega arith) c.context_bin.result c.context_bin.new.contexts (flag_plain a.list a.bytes.now _ c.loop-g.y c.loop-g.contexts c.context_bin.result c.context_bin.new.contexts c.context_bin.ensures) _ _ c.in_ok-b.was c.if-b-eq0.true)

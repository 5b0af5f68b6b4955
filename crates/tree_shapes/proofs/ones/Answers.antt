use mathlib.Core.Path.{refl}
use native.Mathlib.Omega.{arith}
use mathlib.Core.List.{[]}
use Rattle.bins.specs.StepLaws.{passed_on}
use Rattle.tree_shapes.specs.ShapeLaws.{ones_counter, count_begins, count_most, count_refused, count_zero, count_one, bypass_says}
use Rattle.tree_shapes.proofs.ones.Goals as goal

pub loop-g-init : goal.loop-g-init
loop-g-init c = λ contexts. let a = c.args in count_begins ones_counter a.list a.bytes.now a.most a.x contexts c.requires.0

pub decode_bypass-requires : goal.decode_bypass-requires
decode_bypass-requires c = (c.loop-g.invariant []).readable

pub returns-in_err-b : goal.returns-in_err-b
returns-in_err-b c =
    λ contexts.
    let a = c.args in
    rw (passed_on c.from_residual.result _ c.from_residual.ensures.1)
    (count_refused ones_counter a.list a.bytes.now a.most a.x contexts c.loop-g.y contexts c.loop-g.g (c.loop-g.invariant contexts) (λ q. omega arith) c.decode_bypass.result contexts (bypass_says a.list a.bytes.now c.loop-g.y contexts c.decode_bypass.result c.decode_bypass.ensures) _ c.in_err-b.was)

pub loop-g-preserved : goal.loop-g-preserved
loop-g-preserved c = λ contexts. let a = c.args in count_one ones_counter a.list a.bytes.now a.most a.x contexts c.loop-g.y contexts c.loop-g.g (c.loop-g.invariant contexts) (λ q. omega arith) c.decode_bypass.result contexts (bypass_says a.list a.bytes.now c.loop-g.y contexts c.decode_bypass.result c.decode_bypass.ensures) _ _ c.in_ok-b.was c.if-b-eq0.false refl

pub returns : goal.returns
returns c = λ contexts. let a = c.args in count_most ones_counter a.list a.bytes.now a.most a.x contexts c.loop-g.y contexts c.loop-g.g (c.loop-g.invariant contexts) (omega arith)

pub returns-then-b-eq0 : goal.returns-then-b-eq0
returns-then-b-eq0 c = λ contexts. let a = c.args in count_zero ones_counter a.list a.bytes.now a.most a.x contexts c.loop-g.y contexts c.loop-g.g (c.loop-g.invariant contexts) (λ q. omega arith) c.decode_bypass.result contexts (bypass_says a.list a.bytes.now c.loop-g.y contexts c.decode_bypass.result c.decode_bypass.ensures) _ _ c.in_ok-b.was c.if-b-eq0.true

use native.Mathlib.Omega.{arith}
use mathlib.Core.Path.{◌≡◌, subst}
use Prim.Native.Nat.{◌≤◌, ◌<◌}
use Rattle.exp_golomb.specs.PrefixLaws.{Prefixed, counted_none, counted_more, counted_left, counted_all}
use Rattle.exp_golomb.proofs.eg_count.Goals as goal

pub loop-n-init : goal.loop-n-init
loop-n-init c = let a = c.args in counted_none a.k a.v a.most

pub returns-then-v-whole_of : goal.returns-then-v-whole_of
returns-then-v-whole_of c =
    let a = c.args in
    counted_left a.k a.v a.most c.loop-n.n c.loop-n.invariant (subst (λ z. a.v < z) c.whole_of.ensures c.if-v-whole_of.true)

pub loop-n-preserved : goal.loop-n-preserved
loop-n-preserved c =
    let a = c.args in
    counted_more a.k a.v a.most c.loop-n.n c.loop-n.invariant (omega arith) (subst (λ z. z ≤ a.v) c.whole_of.ensures c.if-v-whole_of.false)

pub returns : goal.returns
returns c =
    let a = c.args in
    let e : c.loop-n.n ≡ a.most = omega arith in
    subst (Prefixed a.k a.v a.most) e (counted_all a.k a.v a.most c.loop-n.n c.loop-n.invariant (omega arith))

use native.Mathlib.Omega.{arith}
use borrow.Author.Rules.{rules}
use mathlib.Core.Path.{refl}
use Rattle.morning_add.specs.CodeLaws.{fed_begun, fed_more, fed_state_all, fed_sums_all}
use Rattle.morning_sums.proofs.feeding.feed.Goals as goal

pub loop-b-init : goal.loop-b-init
loop-b-init c =
    let a = c.args in
    (refl, fed_begun a.piece.now a.line.now _ a.s.line c.requires.1)

pub step-t-requires : goal.step-t-requires
step-t-requires c =
    let w = c.loop-b.invariant in
    (omega (arith, w.0, c.requires.0), w.1.holds, omega (arith, w.1.numbers, c.requires.2))

pub loop-b-preserved : goal.loop-b-preserved
loop-b-preserved c =
    let x = c.step-t.ensures in
    (search rules, fed_more _ _ _ _ _ _ _ _ _ _ _ c.loop-b.invariant.1 (omega arith) x.0 x.1 x.2 x.3 x.4)

pub returns : goal.returns
returns c =
    let w = c.loop-b.invariant.1 in
    (fed_state_all _ _ _ _ _ _ _ _ w (omega arith), fed_sums_all _ _ _ _ _ _ _ _ w (omega arith), w.holds, w.later, omega (arith, w.numbers))

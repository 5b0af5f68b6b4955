use native.Mathlib.Omega.{arith}
use borrow.Author.Rules.{rules}
use mathlib.Core.Path.{refl}
use Rattle.book_answers.specs.CodeLaws.{feeding_begun, feeding_more, feeding_state, feeding_gave}
use Rattle.book_answering.proofs.answering.feed.Goals as goal

pub loop-b-init : goal.loop-b-init
loop-b-init c =
    let a = c.args in
    (refl, refl, refl, feeding_begun a.piece.now a.line.now a.tally.now a.out.now a.p c.requires.1)

pub loop-b-preserved : goal.loop-b-preserved
loop-b-preserved c =
    let x = c.step-s.ensures in
    (search rules, search rules, search rules, feeding_more _ _ _ _ _ _ _ _ _ _ _ _ _ c.loop-b.invariant.3 (omega arith) x.0 x.1 x.2 x.3 x.4 x.5)

pub returns : goal.returns
returns c =
    let w = c.loop-b.invariant.3 in
    (feeding_state _ _ _ _ _ _ _ _ _ w (omega arith), feeding_gave _ _ _ _ _ _ _ _ _ w (omega arith), w.holds, omega (arith, w.out_room), w.later, omega (arith, w.numbers))

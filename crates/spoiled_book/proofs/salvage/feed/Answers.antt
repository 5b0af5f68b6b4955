use native.Mathlib.Omega.{arith}
use mathlib.Core.Path.{refl}
use borrow.Author.Rules.{rules}
use Rattle.spoiled_book.specs.FeedLaws.{feeding_begun, feeding_more, feeding_state, feeding_gave}
use Rattle.spoiled_book.proofs.salvage.feed.Goals as goal

pub loop-b-init : goal.loop-b-init
loop-b-init c =
    let a = c.args in
    let p = c.requires in
    (refl, refl, refl, feeding_begun a.piece.now a.line.now a.book.now a.report.now a.p a.t p.1 p.5)

pub loop-b-preserved : goal.loop-b-preserved
loop-b-preserved c =
    let x = c.step-s.ensures in
    (search rules, search rules, search rules, feeding_more _ _ _ _ _ _ _ _ _ _ _ _ c.loop-b.invariant.3 (omega arith) x.0 x.1 x.2 x.3 x.4 x.5 x.6)

pub returns : goal.returns
returns c =
    let w = c.loop-b.invariant.3 in
    (feeding_state _ _ _ _ _ _ _ _ w (omega arith), feeding_gave _ _ _ _ _ _ _ _ w (omega arith), w.holds, omega (arith, w.book_room), omega (arith, w.report_room), omega (arith, w.numbers), w.fewer)

use Rattle.spoiled.specs.Gave.{gave_none, gave_as}
use Rattle.book_lines.specs.CodeLaws.{end_none, end_open}
use mathlib.Core.List.{[]}
use native.Mathlib.Omega.{arith}
use Rattle.spoiled_book.proofs.salvage.finish.Goals as goal

-- `finish` meets its contract. Assumes nothing.
pub returns-then-held-eq0 : goal.returns-then-held-eq0
returns-then-held-eq0 c =
    let a = c.args in
    (gave_as (λ f. end_none f a.p.number a.p.held a.line.now c.if-held-eq0.true) (gave_none [] [] a.t), omega arith, omega arith, omega arith)

pub returns : goal.returns
returns c =
    let a = c.args in
    (gave_as (λ f. end_open f a.p.number a.p.held a.line.now c.if-held-eq0.false (omega arith)) c.end_line.ensures.0, omega arith, omega arith, omega arith)

use native.Mathlib.Omega.{arith}
use Rattle.bulmegart_book.specs.ExportedLaws.{taken_by, ended_taken, ended_refused}
use Rattle.bulmegart_book.proofs.bulmegart_book_finish.Goals as goal

pub returns-then-number-ne0 : goal.returns-then-number-ne0
returns-then-number-ne0 c = let a = c.args in ended_refused a.buffer.now a.line a.held a.tally.now a.room.now _ c.handed_refusal-number.ensures c.if-number-ne0.true

pub finish-requires : goal.finish-requires
finish-requires c =
    let t = taken_by _ _ _ _ _ _ c.handed_refusal-number.ensures c.if-number-ne0.false in
    (omega (arith, t.buffer_is, t.few_held), t.room_enough, omega (arith, t.numbers_left))

pub returns : goal.returns
returns c =
    let a = c.args in
    let x = c.finish.ensures in
    ended_taken a.buffer.now a.line a.held a.tally.now a.room.now _ _ _ _ _ c.handed_refusal-number.ensures c.if-number-ne0.false x.0 c.into.ensures

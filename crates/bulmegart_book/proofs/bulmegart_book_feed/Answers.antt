use Rattle.bulmegart_book.specs.ExportedLaws.{taken_by, fed_taken, fed_refused}
use Rattle.bulmegart_book.proofs.bulmegart_book_feed.Goals as goal

pub returns-then-number-ne0 : goal.returns-then-number-ne0
returns-then-number-ne0 c = let a = c.args in fed_refused a.piece.now a.buffer.now a.line a.held a.tally.now a.room.now _ c.handed_refusal-number.ensures c.if-number-ne0.true

pub feed-requires : goal.feed-requires
feed-requires c =
    let t = taken_by _ _ _ _ _ _ c.handed_refusal-number.ensures c.if-number-ne0.false in
    (t.buffer_is, t.few_held, t.room_enough, t.numbers_left)

pub returns : goal.returns
returns c =
    let a = c.args in
    let x = c.feed.ensures in
    fed_taken a.piece.now a.buffer.now a.line a.held a.tally.now a.room.now _ _ _ _ _ _ c.handed_refusal-number.ensures c.if-number-ne0.false x.0 x.1 c.into.ensures

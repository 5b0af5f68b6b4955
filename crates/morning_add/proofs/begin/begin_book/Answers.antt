use Rattle.morning_add.specs.CodeLaws.{book_begun}
use Rattle.morning_add.proofs.begin.begin_book.Goals as goal

pub returns : goal.returns
returns c = book_begun _ _ _ _ _ _ _ _ _ _ _ _ _ _ _ _ _ _ _ _ c.begin_size-a.ensures c.begin_size-b.ensures c.begin_size-c.ensures c.begin_size-d.ensures

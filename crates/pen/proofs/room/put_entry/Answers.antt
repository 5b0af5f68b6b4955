use mathlib.Core.Path.{refl}
use Rattle.pen.specs.Sheet.{sheet}
use Rattle.pen.specs.SheetLaws.{entered_two}
use Rattle.pen.proofs.room.put_entry.Goals as goal

pub returns : goal.returns
returns c =
    let a = c.args in
    entered_two a.t _ _ (sheet a.room.now a.pen) (sheet c.put-half.new.room c.put-half.result) (sheet c.put.new.room c.put.result) refl refl c.put-half.ensures c.put.ensures

use mathlib.Core.Path.{ap, ◌∙◌}
use lib.ListN.{set}
use Rattle.pen.specs.Sheet.{sheet}
use Rattle.pen.specs.SheetLaws.{inked_over, inked_written, inked_counted}
use Rattle.pen.proofs.room.put.Goals as goal

pub returns-then-room-at : goal.returns-then-room-at
returns-then-room-at c = inked_over c.args.room.now c.args.pen c.args.x c.if-room-at.true

pub returns-then-pen : goal.returns-then-pen
returns-then-pen c =
    ap (λ z. sheet (set c.args.room.now c.args.pen.at c.args.x) z) c.on.ensures ∙ inked_written c.args.room.now c.args.pen c.args.x
    c.if-room-at.false c.if-pen.true

pub returns : goal.returns
returns c =
    ap (λ z. sheet c.args.room.now z) c.on-2.ensures ∙ inked_counted c.args.room.now c.args.pen c.args.x c.if-room-at.false
    c.if-pen.false

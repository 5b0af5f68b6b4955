use native.Mathlib.Omega.{arith}
use Rattle.press_frame.specs.PressCode.{short_room, other_head, other_values, flags_left}
use Rattle.press_frame.proofs.press.handed_refusal.Goals as goal

-- `handed_refusal` meets its contract. Assumes nothing.
pub returns-then-room-lt4234 : goal.returns-then-room-lt4234
returns-then-room-lt4234 c = let a = c.args in short_room a.room a.head.now a.values.now (omega arith)

pub returns-then-head-ne6 : goal.returns-then-head-ne6
returns-then-head-ne6 c = let a = c.args in other_head a.room a.head.now a.values.now (omega arith) c.if-head-ne6.true

pub returns-then-values-ne-CONTEXTS : goal.returns-then-values-ne-CONTEXTS
returns-then-values-ne-CONTEXTS c = let a = c.args in other_values a.room a.head.now a.values.now (omega arith) c.if-head-ne6.false c.if-values-ne-CONTEXTS.true

pub returns : goal.returns
returns c = let a = c.args in flags_left a.room a.head.now a.values.now _ (omega arith) c.if-head-ne6.false c.if-values-ne-CONTEXTS.false c.flags_refusal.ensures

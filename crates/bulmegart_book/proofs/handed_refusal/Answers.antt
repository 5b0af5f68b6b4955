use native.Mathlib.Omega.{arith}
use Rattle.bulmegart_book.specs.ExportedLaws.{other_buffer, too_many_held, no_number_left, short_room, none_refused}
use Rattle.bulmegart_book.proofs.handed_refusal.Goals as goal

-- `handed_refusal` meets its contract. Assumes nothing.
pub returns-then-buffer-ne8469 : goal.returns-then-buffer-ne8469
returns-then-buffer-ne8469 c = let a = c.args in other_buffer a.buffer a.line a.held a.lines a.room c.if-buffer-ne8469.true

pub returns-then-held-gt8469 : goal.returns-then-held-gt8469
returns-then-held-gt8469 c = let a = c.args in too_many_held a.buffer a.line a.held a.lines a.room (omega arith) (omega arith)

pub returns-then-lines-line : goal.returns-then-lines-line
returns-then-lines-line c = let a = c.args in no_number_left a.buffer a.line a.held a.lines a.room (omega arith) (omega arith) (omega arith)

pub returns-then-room-lines : goal.returns-then-room-lines
returns-then-room-lines c = let a = c.args in short_room a.buffer a.line a.held a.lines a.room (omega arith) (omega arith) (omega arith) (omega arith)

pub returns : goal.returns
returns c = let a = c.args in none_refused a.buffer a.line a.held a.lines a.room (omega arith) (omega arith) (omega arith) (omega arith)

use Rattle.press_frame.specs.PressCode.{number_long, number_same}
use Rattle.press_frame.proofs.press.line_number.Goals as goal

-- `line_number` meets its contract. Assumes nothing.
pub returns-then-n-eq12 : goal.returns-then-n-eq12
returns-then-n-eq12 c = number_long c.args.n c.if-n-eq12.true

pub returns : goal.returns
returns c = number_same c.args.n c.if-n-eq12.false

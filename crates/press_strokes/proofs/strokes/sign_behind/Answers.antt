use Rattle.press_strokes.specs.StrokeLaws.{sign_turned, sign_kept}
use Rattle.press_strokes.proofs.strokes.sign_behind.Goals as goal

-- `sign_behind` meets its contract. Assumes nothing.
pub returns-then-k-eq2 : goal.returns-then-k-eq2
returns-then-k-eq2 c = let a = c.args in sign_turned a.k a.negative c.if-k-eq2.true

pub returns : goal.returns
returns c = let a = c.args in sign_kept a.k a.negative c.if-k-eq2.false

use mathlib.Core.Path.{sym, ap}
use mathlib.Core.Bool.{cond}
use borrow.Author.Tests.{eq-eqb, ne_eqb}
use Rattle.hevc_pen.proofs.head.first_of.Goals as goal

-- `first_of` meets its contract. Assumes nothing.
pub returns-then-scan-eq2 : goal.returns-then-scan-eq2
returns-then-scan-eq2 c = let a = c.args in ap (λ b. cond b a.y a.x) (sym (eq-eqb a.scan 2 c.if-scan-eq2.true))

pub returns-else-scan-eq2 : goal.returns-else-scan-eq2
returns-else-scan-eq2 c = let a = c.args in ap (λ b. cond b a.y a.x) (sym (ne_eqb a.scan 2 c.if-scan-eq2.false))

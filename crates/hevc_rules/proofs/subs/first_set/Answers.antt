use borrow.Author.Tests.{eq-eqb, ne_eqb}
use native.Mathlib.Omega.{arith}
use Rattle.hevc_rules.proofs.subs.first_set.Goals as goal

-- `first_set` meets its contract. Assumes nothing.
pub returns-then-i-eq0 : goal.returns-then-i-eq0
returns-then-i-eq0 c = (rw (eq-eqb c.args.i 0 c.if-i-eq0.true), omega arith)

pub returns-then-luma : goal.returns-then-luma
returns-then-luma c = (rw (ne_eqb c.args.i 0 c.if-i-eq0.false, c.if-luma.true), omega arith)

pub returns-else-luma : goal.returns-else-luma
returns-else-luma c = (rw (ne_eqb c.args.i 0 c.if-i-eq0.false, c.if-luma.false), omega arith)

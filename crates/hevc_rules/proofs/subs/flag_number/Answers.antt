use borrow.Author.Tests.{eq-eqb, ne_eqb}
use native.Mathlib.Omega.{arith}
use Rattle.hevc_rules.proofs.subs.flag_number.Goals as goal

-- `flag_number` meets its contract. Assumes nothing.
pub returns-then-neighbours-eq0 : goal.returns-then-neighbours-eq0
returns-then-neighbours-eq0 c = (rw (c.if-luma.true, eq-eqb c.args.neighbours 0 c.if-neighbours-eq0.true), omega arith)

pub returns-then-luma : goal.returns-then-luma
returns-then-luma c = (rw (c.if-luma.true, ne_eqb c.args.neighbours 0 c.if-neighbours-eq0.false), omega arith)

pub returns-then-neighbours-eq0-2 : goal.returns-then-neighbours-eq0-2
returns-then-neighbours-eq0-2 c = (rw (c.if-luma.false, eq-eqb c.args.neighbours 0 c.if-neighbours-eq0-2.true), omega arith)

pub returns-else-neighbours-eq0-2 : goal.returns-else-neighbours-eq0-2
returns-else-neighbours-eq0-2 c = (rw (c.if-luma.false, ne_eqb c.args.neighbours 0 c.if-neighbours-eq0-2.false), omega arith)

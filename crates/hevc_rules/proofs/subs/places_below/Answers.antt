use borrow.Author.Tests.{eq-eqb, ne_eqb}
use Rattle.hevc_rules.proofs.subs.places_below.Goals as goal

-- `places_below` meets its contract. Assumes nothing.
pub returns-then-i-last : goal.returns-then-i-last
returns-then-i-last c = rw (eq-eqb c.args.i c.args.last c.if-i-last.true)

pub returns-else-i-last : goal.returns-else-i-last
returns-else-i-last c = rw (ne_eqb c.args.i c.args.last c.if-i-last.false)

use native.Mathlib.Omega.{arith}
use mathlib.Core.Path.{refl}
use Rattle.tables.specs.Tables.{lps_at, range_tab_lps}
use Rattle.tables.specs.Bounds.{lps_at_lem}
use borrow.Author.Rules.{rules}
use Rattle.tables.proofs.range_lps.Goals as goal

pub overflow_cast-result : goal.overflow_cast-result
unfolding lps_at range_tab_lps
overflow_cast-result c = omega (arith, (lps_at_lem c.args.state c.args.class (search rules) (search rules)).1)

pub returns : goal.returns
unfolding lps_at range_tab_lps
returns c = refl

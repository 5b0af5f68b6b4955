use Rattle.tables.specs.Decisions.{decisions}
use mathlib.Core.Path.{refl}
use Rattle.tables.proofs.decision_table.Goals as goal

-- `decision_table` meets its contract. Assumes nothing.
pub returns : goal.returns
unfolding decisions
returns c = refl

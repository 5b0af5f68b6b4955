use native.Mathlib.Omega.{arith}
use Prim.Native.Nat.{◌%◌}
use Rattle.tables.specs.Tables.{trans_idx_lps}
use Rattle.tables.specs.Bounds.{lps_state_lem, lps_flips, lps_stays}
use Rattle.tables.proofs.on_lps.Goals as goal

pub overflow_cast-next : goal.overflow_cast-next
unfolding trans_idx_lps
overflow_cast-next c = omega (arith, lps_state_lem (c.args.ctx % 64) (omega arith))

pub overflow_add-result : goal.overflow_add-result
unfolding trans_idx_lps
overflow_add-result c = omega (arith, lps_state_lem (c.args.ctx % 64) (omega arith))

pub overflow_add-result-else-ctx-eq0 : goal.overflow_add-result-else-ctx-eq0
unfolding trans_idx_lps
overflow_add-result-else-ctx-eq0 c = omega (arith, lps_state_lem (c.args.ctx % 64) (omega arith))

pub returns-then-ctx-eq0 : goal.returns-then-ctx-eq0
unfolding trans_idx_lps
returns-then-ctx-eq0 c = lps_flips c.args.ctx c.if-ctx-eq0.true

pub returns-else-ctx-eq0 : goal.returns-else-ctx-eq0
unfolding trans_idx_lps
returns-else-ctx-eq0 c = lps_stays c.args.ctx c.if-ctx-eq0.false

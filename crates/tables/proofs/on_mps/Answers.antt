use native.Mathlib.Omega.{arith}
use mathlib.Core.Path.{refl}
use Prim.Native.Nat.{◌%◌}
use Rattle.tables.specs.Tables.{on_mps, trans_idx_mps}
use Rattle.tables.specs.Bounds.{mps_state_lem}
use Rattle.tables.proofs.on_mps.Goals as goal

pub overflow_cast-result : goal.overflow_cast-result
unfolding trans_idx_mps
overflow_cast-result c = omega (arith, mps_state_lem (c.args.ctx % 64) (omega arith))

pub overflow_add-result : goal.overflow_add-result
unfolding trans_idx_mps
overflow_add-result c = omega (arith, mps_state_lem (c.args.ctx % 64) (omega arith))

pub returns : goal.returns
unfolding on_mps trans_idx_mps
returns c = refl

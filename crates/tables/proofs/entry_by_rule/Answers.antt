use native.Mathlib.Omega.{arith}
use Prim.Native.Nat.{◌%◌}
use Rattle.tables.specs.Bounds.{lps_at_lem, mps_small, lps_small}
use Rattle.tables.specs.Rule.{entry_parts}
use Rattle.tables.proofs.entry_by_rule.Goals as goal

pub overflow_mul-result : goal.overflow_mul-result
overflow_mul-result c = omega (arith, c.on_mps.ensures, mps_small c.args.ctx (omega arith))

pub overflow_add-result : goal.overflow_add-result
overflow_add-result c = let a = c.args in omega (arith, c.on_mps.ensures, mps_small a.ctx (omega arith), c.range_lps.ensures, (lps_at_lem (a.ctx % 64) a.class (omega arith) (omega arith)).1)

pub overflow_mul-result-2 : goal.overflow_mul-result-2
overflow_mul-result-2 c = omega (arith, c.on_lps.ensures, lps_small c.args.ctx (omega arith))

pub overflow_add-result-2 : goal.overflow_add-result-2
overflow_add-result-2 c = let a = c.args in omega (arith, c.on_lps.ensures, lps_small a.ctx (omega arith), c.on_mps.ensures, mps_small a.ctx (omega arith), c.range_lps.ensures, (lps_at_lem (a.ctx % 64) a.class (omega arith) (omega arith)).1)

pub returns : goal.returns
returns c = let a = c.args in entry_parts a.ctx a.class _ _ _ (omega arith) c.range_lps.ensures c.on_mps.ensures c.on_lps.ensures

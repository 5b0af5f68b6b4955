use native.Mathlib.Omega.{arith}
use Rattle.cabac.specs.Contexts.{slope_raised}
use Rattle.cabac.specs.EntryLaws.{slope_small, initial_code}
use borrow.Author.Rules.{rules}
use Rattle.cabac_init.proofs.contexts.init.Goals as goal

pub overflow_add-raised : goal.overflow_add-raised
unfolding slope_raised
overflow_add-raised c = let a = c.args in omega (arith, c.slope.ensures, c.quantiser.ensures, slope_small a.v c.quantiser.result (search rules) (omega arith))

pub returns : goal.returns
returns c = let a = c.args in initial_code a.v a.q _ _ _ _ c.quantiser.ensures c.slope.ensures c.clip.ensures c.pack.ensures

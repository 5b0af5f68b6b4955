use native.Mathlib.Omega.{arith}
use Rattle.exp_golomb.specs.WholeLaws.{ones_some, whole_shl, whole_small}
use Rattle.exp_golomb.proofs.whole_of.Goals as goal

pub overflow_sub-result : goal.overflow_sub-result
overflow_sub-result c = let a = c.args in ones_some a.n a.k c.requires.0 c.requires.1

pub overflow_add-result : goal.overflow_add-result
overflow_add-result c = let a = c.args in omega (arith, whole_shl a.n a.k c.requires.0 c.requires.1, whole_small a.n a.k c.requires.0 c.requires.1)

pub returns : goal.returns
returns c = let a = c.args in omega (arith, whole_shl a.n a.k c.requires.0 c.requires.1)

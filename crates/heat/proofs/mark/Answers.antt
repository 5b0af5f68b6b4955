use Rattle.std.proofs.Common.{arith}
use Rattle.heat.specs.HeatLaws.{mark_at, mark_last}
use Rattle.heat.specs.Heat.{mark_of}
use Rattle.heat.proofs.mark.Goals as goal

-- `mark` meets its contract. Assumes nothing.
pub returns-in-0 : goal.returns-in-0
unfolding mark_of
returns-in-0 c = mark_at c.args.shade 0 c.in-0.is

pub returns-in-1 : goal.returns-in-1
unfolding mark_of
returns-in-1 c = mark_at c.args.shade 1 c.in-1.is

pub returns-in-2 : goal.returns-in-2
unfolding mark_of
returns-in-2 c = mark_at c.args.shade 2 c.in-2.is

pub returns-in-3 : goal.returns-in-3
unfolding mark_of
returns-in-3 c = mark_at c.args.shade 3 c.in-3.is

pub returns-in-4 : goal.returns-in-4
unfolding mark_of
returns-in-4 c = mark_at c.args.shade 4 c.in-4.is

pub returns-in-5 : goal.returns-in-5
unfolding mark_of
returns-in-5 c = mark_at c.args.shade 5 c.in-5.is

pub returns-in-6 : goal.returns-in-6
unfolding mark_of
returns-in-6 c = mark_at c.args.shade 6 c.in-6.is

pub returns-in-7 : goal.returns-in-7
unfolding mark_of
returns-in-7 c = mark_at c.args.shade 7 c.in-7.is

pub returns-in-8 : goal.returns-in-8
unfolding mark_of
returns-in-8 c = mark_at c.args.shade 8 c.in-8.is

pub returns-in_default : goal.returns-in_default
returns-in_default c = mark_last c.args.shade (omega arith) (omega arith) (omega arith) (omega arith) (omega arith) (omega arith) (omega arith) (omega arith) (omega arith)

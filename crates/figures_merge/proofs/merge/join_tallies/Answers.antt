use Prim.Native.Nat.{◌-◌}
use native.Mathlib.Omega.{arith}
use Rattle.figures.specs.CodeLaws.{turning_begins, turning_on, turning_ends, join_tallies}
use Rattle.figures_merge.proofs.merge.join_tallies.Goals as goal

pub loop-i-init : goal.loop-i-init
loop-i-init c = let a = c.args in turning_begins (join_tallies a.k.now) a.tallies.now 24

pub loop-i-preserved : goal.loop-i-preserved
loop-i-preserved c = let a = c.args in turning_on (join_tallies a.k.now) a.tallies.now 24 c.loop-i.tallies c.loop-i.i c.tallied_both-t.result c.loop-i.invariant (omega arith) c.tallied_both-t.ensures

pub returns : goal.returns
returns c = let a = c.args in turning_ends (join_tallies a.k.now) a.tallies.now 24 c.loop-i.tallies c.loop-i.i c.loop-i.invariant (omega arith)

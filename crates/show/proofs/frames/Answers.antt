use native.Mathlib.Omega.{arith}
use Rattle.show.proofs.frames.Goals as goal

pub loop-from-init : goal.loop-from-init
loop-from-init g c = omega arith

pub loop-from-smaller : goal.loop-from-smaller
loop-from-smaller g c = omega arith

pub loop-from-preserved : goal.loop-from-preserved
loop-from-preserved g c = omega arith

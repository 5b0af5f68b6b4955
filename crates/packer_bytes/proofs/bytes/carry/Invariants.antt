use mathlib.Core.Path.{◌≡◌}
use Rattle.packer_steps.specs.Register.{carried}
use Rattle.packer_bytes.proofs.bytes.carry.Given as goal

abbrev pub invariant-loop-k : goal.invariant-loop-k
invariant-loop-k l = carried l.k l.room ≡ carried l.n l.initial.room

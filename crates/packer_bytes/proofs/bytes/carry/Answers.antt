use native.Mathlib.Omega.{arith}
use mathlib.Core.Path.{◌≡◌, sym, ap, ◌∙◌}
use Prim.Native.Nat.{◌-◌}
use Rattle.packer_steps.specs.Register.{carried}
use Rattle.packer_steps.specs.RoomLaws.{carry_ends, carry_goes, carried_none}
use Rattle.packer_bytes.proofs.bytes.carry.Goals as goal

pub returns-then-byte-lt255 : goal.returns-then-byte-lt255
returns-then-byte-lt255 c = carry_ends c.loop-k.k c.loop-k.room (c.loop-k.k - 1) (omega arith) (omega arith) ∙ c.loop-k.invariant

pub loop-k-preserved : goal.loop-k-preserved
loop-k-preserved c = carry_goes c.loop-k.k c.loop-k.room (c.loop-k.k - 1) (omega arith) (omega arith) ∙ c.loop-k.invariant

pub returns : goal.returns
returns c = let e : c.loop-k.k ≡ 0 = omega arith in sym (carried_none c.loop-k.room) ∙ sym (ap (λ z. carried z c.loop-k.room) e) ∙ c.loop-k.invariant

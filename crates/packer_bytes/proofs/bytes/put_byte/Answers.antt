use native.Mathlib.Omega.{arith}
use mathlib.Core.Path.{sym, ap, ◌∙◌}
use lib.ListN.{length, length-set}
use Rattle.packer_steps.specs.Register.{inked}
use Rattle.packer_steps.specs.RoomLaws.{carried_length, placed_none, placed_byte, placed_carry}
use Rattle.packer_bytes.proofs.bytes.put_byte.Goals as goal

pub carry-requires : goal.carry-requires
carry-requires c = simp length-set (omega arith)

pub shape_of-room-then-nine-ge256 : goal.shape_of-room-then-nine-ge256
shape_of-room-then-nine-ge256 c = ap length c.carry.ensures ∙ simp (carried_length, length-set)

pub returns-then-nine-ge256 : goal.returns-then-nine-ge256
returns-then-nine-ge256 c =
    let a = c.args in
    let h = c.requires in
    c.carry.ensures ∙ placed_carry a.nine a.at a.room.now (omega arith) (omega arith) ∙ sym (ap (λ w. inked w a.nine a.at a.room.now) c.if-writing.true)

pub returns-else-nine-ge256 : goal.returns-else-nine-ge256
returns-else-nine-ge256 c =
    let a = c.args in
    let h = c.requires in
    placed_byte a.nine a.at a.room.now (omega arith) (omega arith) ∙ sym (ap (λ w. inked w a.nine a.at a.room.now) c.if-writing.true)

pub returns-else-at-room : goal.returns-else-at-room
returns-else-at-room c =
    let a = c.args in
    let h = c.requires in
    placed_none a.nine a.at a.room.now (omega arith) ∙ sym (ap (λ w. inked w a.nine a.at a.room.now) c.if-writing.true)

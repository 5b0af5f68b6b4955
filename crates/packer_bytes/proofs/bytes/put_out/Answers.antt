use native.Mathlib.Omega.{arith}
use Rattle.packer_steps.specs.RegisterLaws.{nine_few, nine_back, low_left, out_none, out_some}
use Rattle.packer_bytes.proofs.bytes.put_out.Goals as goal

pub returns-then-c-lt17 : goal.returns-then-c-lt17
returns-then-c-lt17 c =
    let a = c.args in
    let h = c.requires in
    out_none a.writing a.room.now a.c (omega arith)

pub put_byte-requires : goal.put_byte-requires
put_byte-requires c =
    let a = c.args in
    let h = c.requires in
    nine_few a.c h (omega arith)

pub overflow_sub-result : goal.overflow_sub-result
overflow_sub-result c =
    let a = c.args in
    let h = c.requires in
    omega (arith, nine_back a.c h (omega arith))

pub returns : goal.returns
returns c =
    let a = c.args in
    let h = c.requires in
    out_some a.writing a.room.now c.put_byte.new.room a.c (omega arith) _ (low_left a.c h (omega arith)) c.put_byte.ensures

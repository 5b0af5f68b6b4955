use native.Mathlib.Omega.{arith}
use mathlib.Core.Path.{refl}
use Rattle.packer_steps.specs.RegisterLaws.{steady_few, last_small, flush_code}
use Rattle.packer_bytes.proofs.bytes.flush.Goals as goal

pub overflow_add-v : goal.overflow_add-v
overflow_add-v c =
    let a = c.args in
    let h = c.requires in
    omega (arith, steady_few a.c h)

pub overflow_add-odd : goal.overflow_add-odd
overflow_add-odd c =
    let a = c.args in
    let h = c.requires in
    omega (arith, steady_few a.c h)

pub put_byte-requires : goal.put_byte-requires
put_byte-requires c =
    let a = c.args in
    let h = c.requires in
    omega (arith, (last_small a.c h _ refl).1)

pub returns : goal.returns
returns c =
    let a = c.args in
    let h = c.requires in
    (refl, flush_code a.writing a.room.now c.put_byte.new.room c.put_byte-2.new.room a.c h _ refl c.put_byte.ensures c.put_byte-2.ensures)

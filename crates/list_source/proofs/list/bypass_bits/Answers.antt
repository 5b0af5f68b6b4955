use native.Mathlib.Omega.{arith}
use Prim.Native.Nat.{◌+◌}
use lib.Pow.{pow_mono}
use Rattle.bins.specs.StepLaws.{passed_on, entries_begin, entries_again, entries_stop, entries_end}
use Rattle.list_source.proofs.list.bypass_bits.Goals as goal

pub loop-i-init : goal.loop-i-init
loop-i-init c = let a = c.args in entries_begin a.bytes.now a.n a.x c.requires.0

pub bin-requires : goal.bin-requires
bin-requires c = (c.loop-i.invariant.fits, omega arith)

pub returns-in_err-b : goal.returns-in_err-b
returns-in_err-b c =
    let a = c.args in
    rw (passed_on c.from_residual.result _ c.from_residual.ensures.1)
    (entries_stop a.bytes.now a.n c.loop-i._i c.loop-i.v a.x c.loop-i.y c.bin.result _ c.loop-i.invariant (omega arith) c.bin.ensures c.in_err-b.was)

pub overflow_mul-v : goal.overflow_mul-v
overflow_mul-v c = omega (arith, c.loop-i.invariant.small, pow_mono {i = c.loop-i._i} {j = 31} (omega arith))

pub overflow_add-v : goal.overflow_add-v
overflow_add-v c =
    let a = c.args in
    let e = entries_again a.bytes.now a.n c.loop-i._i c.loop-i.v a.x c.loop-i.y c.bin.result _ _ c.loop-i.invariant (omega arith) c.bin.ensures c.in_ok-b.was in
    omega (arith, e.1.small, pow_mono {i = c.loop-i._i + 1} {j = 32} (omega arith))

pub loop-i-preserved : goal.loop-i-preserved
loop-i-preserved c =
    let a = c.args in
    (entries_again a.bytes.now a.n c.loop-i._i c.loop-i.v a.x c.loop-i.y c.bin.result _ _ c.loop-i.invariant (omega arith) c.bin.ensures c.in_ok-b.was).1

pub returns : goal.returns
returns c =
    let a = c.args in
    entries_end a.bytes.now a.n c.loop-i._i c.loop-i.v a.x c.loop-i.y c.loop-i.invariant (omega arith)

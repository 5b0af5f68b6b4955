use native.Mathlib.Omega.{arith}
use Prim.Native.Nat.{◌-◌}
use Rattle.bins.specs.BypassLaws.{bypassed_joined, between_goes, half_small}
use Rattle.payload_bypass.proofs.bypass.bypass_bits.Goals as goal

pub bypass_few-low-requires : goal.bypass_few-low-requires
bypass_few-low-requires c =
    let a = c.args in
    (between_goes a.bytes.now a.x (a.n - 16) c.bypass_few-high.result c.requires.0 c.bypass_few-high.ensures, omega arith)

pub overflow_mul-result : goal.overflow_mul-result
overflow_mul-result c =
    let a = c.args in
    omega (arith, half_small a.bytes.now a.x (a.n - 16) c.bypass_few-high.result c.requires.0 (omega arith) c.bypass_few-high.ensures)

pub overflow_add-result : goal.overflow_add-result
overflow_add-result c =
    let a = c.args in
    let g = between_goes a.bytes.now a.x (a.n - 16) c.bypass_few-high.result c.requires.0 c.bypass_few-high.ensures in
    omega (arith, half_small a.bytes.now a.x (a.n - 16) c.bypass_few-high.result c.requires.0 (omega arith) c.bypass_few-high.ensures, half_small a.bytes.now c.bypass_few-high.result.next 16 c.bypass_few-low.result g (omega arith) c.bypass_few-low.ensures)

pub returns : goal.returns
returns c =
    let a = c.args in
    bypassed_joined a.bytes.now a.x a.n _ _ c.requires.0 (omega arith) c.bypass_few-high.ensures c.bypass_few-low.ensures

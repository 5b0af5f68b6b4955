use native.Mathlib.Omega.{arith}
use Rattle.hevc_magnitudes.specs.MagnitudeLaws.{range_within}
use Rattle.hevc_remainder.specs.RemainderLaws.{escape_limited, escape_egk}
use Prim.Native.Nat.{◌+◌}
use Rattle.hevc_remainder.proofs.remainder.escape.Goals as goal

pub limited-requires : goal.limited-requires
limited-requires c = let a = c.args in let h = c.requires in let w = range_within a.p h.1 in (h.0, omega (arith, w.0, c.range_bits.ensures), omega (arith, w.1, c.range_bits.ensures), omega arith)

pub returns-then-p : goal.returns-then-p
returns-then-p c = λ v cs. let a = c.args in escape_limited a.list a.bytes.now a.p (a.rice + 1) a.x v cs c.limited.result c.range_bits.result c.if-p.true c.range_bits.ensures (c.limited.ensures v cs)

pub returns : goal.returns
returns c = λ v cs. let a = c.args in escape_egk a.list a.bytes.now a.p (a.rice + 1) a.x v cs c.exp_golomb.result c.if-p.false (c.exp_golomb.ensures v cs)

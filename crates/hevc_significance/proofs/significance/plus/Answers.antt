use native.Mathlib.Omega.{arith}
use Rattle.hevc_scans.specs.SigLaws.{luma_small, plus_outside, plus_inside, plus_eight, plus_large}
use Rattle.hevc_significance.proofs.significance.plus.Goals as goal

pub overflow_add-result : goal.overflow_add-result
overflow_add-result c = let a = c.args in omega (arith, c.luma_plus-inside.ensures, luma_small a.log2 a.scan)

pub returns-then-outside : goal.returns-then-outside
returns-then-outside c = let a = c.args in plus_outside a.log2 a.scan a.luma a.outside c.luma_plus-inside.result c.if-luma.true c.if-outside.true c.luma_plus-inside.ensures

pub returns-then-luma : goal.returns-then-luma
returns-then-luma c = let a = c.args in plus_inside a.log2 a.scan a.luma a.outside c.luma_plus-inside.result c.if-luma.true c.if-outside.false c.luma_plus-inside.ensures

pub returns-then-log2-eq3 : goal.returns-then-log2-eq3
returns-then-log2-eq3 c = let a = c.args in plus_eight a.log2 a.scan a.luma a.outside c.if-luma.false c.if-log2-eq3.true

pub returns-else-log2-eq3 : goal.returns-else-log2-eq3
returns-else-log2-eq3 c = let a = c.args in plus_large a.log2 a.scan a.luma a.outside c.if-luma.false c.if-log2-eq3.false

use Rattle.hevc_subblock.specs.CoeffsLaws.{aligned_due, aligned_not}
use Rattle.hevc_subblock.proofs.coeffs.align_if.Goals as goal

pub returns-then-due : goal.returns-then-due
returns-then-due c = let a = c.args in aligned_due a.due a.list a.bytes.now a.x c.if-due.true _ c.align_bypass.ensures

pub returns : goal.returns
returns c = let a = c.args in aligned_not a.due a.list a.bytes.now a.x c.if-due.false

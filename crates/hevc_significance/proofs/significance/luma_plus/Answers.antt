use Rattle.hevc_scans.specs.SigLaws.{luma_first, luma_other, luma_large}
use Rattle.hevc_significance.proofs.significance.luma_plus.Goals as goal

-- `luma_plus` meets its contract. Assumes nothing.
pub returns-then-scan-eq0 : goal.returns-then-scan-eq0
returns-then-scan-eq0 c = luma_first _ _ c.if-log2-eq3.true c.if-scan-eq0.true

pub returns-then-log2-eq3 : goal.returns-then-log2-eq3
returns-then-log2-eq3 c = luma_other _ _ c.if-log2-eq3.true c.if-scan-eq0.false

pub returns : goal.returns
returns c = luma_large c.args.log2 c.args.scan c.if-log2-eq3.false

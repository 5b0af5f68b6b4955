use Rattle.hevc_head_rules.specs.HeadRules.{placed_swapped, placed_straight}
use Rattle.hevc_head_rules.proofs.head.placed.Goals as goal

-- `placed` meets its contract. Assumes nothing.
pub returns-then-scan-eq2 : goal.returns-then-scan-eq2
returns-then-scan-eq2 c = let a = c.args in placed_swapped a.skip a.rdpcm a.scan a.x a.y c.if-scan-eq2.true

pub returns : goal.returns
returns c = let a = c.args in placed_straight a.skip a.rdpcm a.scan a.x a.y c.if-scan-eq2.false

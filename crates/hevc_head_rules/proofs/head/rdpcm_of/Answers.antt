use Rattle.hevc_head_rules.specs.HeadRules.{rdpcm_vertical, rdpcm_horizontal, rdpcm_none}
use Rattle.hevc_head_rules.proofs.head.rdpcm_of.Goals as goal

-- `rdpcm_of` meets its contract. Assumes nothing.
pub returns-then-dir-eq1 : goal.returns-then-dir-eq1
returns-then-dir-eq1 c = let a = c.args in rdpcm_vertical a.flag a.dir c.if-flag-eq1.true c.if-dir-eq1.true

pub returns-then-flag-eq1 : goal.returns-then-flag-eq1
returns-then-flag-eq1 c = let a = c.args in rdpcm_horizontal a.flag a.dir c.if-flag-eq1.true c.if-dir-eq1.false

pub returns : goal.returns
returns c = let a = c.args in rdpcm_none a.flag a.dir c.if-flag-eq1.false

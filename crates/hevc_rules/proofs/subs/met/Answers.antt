use mathlib.Core.Path.{refl}
use Rattle.hevc_rules.specs.SmallLaws.{met_last, met_none}
use Rattle.hevc_rules.proofs.subs.met.Goals as goal

-- `met` meets its contract. Assumes nothing.
pub returns-then-i-last : goal.returns-then-i-last
returns-then-i-last c = let a = c.args in met_last a.i a.last a.lastin _ c.if-i-last.true c.requires refl

pub returns : goal.returns
returns c = let a = c.args in met_none a.i a.last a.lastin _ c.if-i-last.false refl

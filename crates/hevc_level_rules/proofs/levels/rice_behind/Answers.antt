use Rattle.hevc_rules.specs.BehindLaws.{chosen, other}
use Rattle.hevc_level_rules.proofs.levels.rice_behind.Goals as goal

pub returns-then-more : goal.returns-then-more
returns-then-more c = chosen c.args.more _ _ c.rice_next.result c.if-more.true c.rice_next.ensures

pub returns : goal.returns
returns c = other c.args.more _ _ c.if-more.false

use borrow.Author.Rules.{rules}
use Rattle.hevc_rules.specs.BehindLaws.{behind_code}
use Rattle.hevc_level_rules.proofs.levels.behind.Goals as goal

pub returns : goal.returns
returns c =
    let a = c.args in
    behind_code a.p a.g a.more a.v a.m a.sum a.column _ _ _ _ _ _ _ c.saturating_sub.ensures c.seen_behind.ensures c.saturating_sub-2.ensures c.rice_behind.ensures (search rules) c.larger.ensures c.stat_behind.ensures

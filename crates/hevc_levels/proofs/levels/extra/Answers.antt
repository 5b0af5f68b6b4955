use Rattle.hevc_levels.specs.LevelLaws.{extra_none, extra_some}
use Rattle.hevc_levels.proofs.levels.extra.Goals as goal

pub returns-then-more : goal.returns-then-more
returns-then-more c =
    let a = c.args in
    extra_some a.list a.bytes.now a.p a.more a.rice a.x c.remainder.result c.if-more.true c.remainder.ensures

pub returns : goal.returns
returns c =
    let a = c.args in
    extra_none a.list a.bytes.now a.p a.more a.rice a.x c.if-more.false

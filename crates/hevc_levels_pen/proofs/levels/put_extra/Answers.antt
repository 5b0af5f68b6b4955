use Rattle.pen.specs.Sheet.{sheet}
use Rattle.hevc_levels_pen.specs.LevelsPuts.{extra_put, extra_left}
use Rattle.hevc_levels_pen.proofs.levels.put_extra.Goals as goal

pub returns-then-more : goal.returns-then-more
returns-then-more c =
    let a = c.args in extra_put a.p a.more a.rice a.v _ _
    c.if-more.true c.put_remainder.ensures

pub returns : goal.returns
returns c = let a = c.args in extra_left a.p a.more a.rice a.v (sheet a.room.now a.pen) (sheet a.room.now a.pen) c.if-more.false

use Rattle.hevc_rules.specs.SmallLaws.{set_first, set_more, set_same}
use Rattle.hevc_rules.proofs.subs.ctxset_of.Goals as goal

pub returns-then-c : goal.returns-then-c
returns-then-c c = let a = c.args in set_first a.p.luma a.i a.c.first a.c.carry _ c.if-c.true c.first_set-set.ensures

pub returns-then-c-eq0 : goal.returns-then-c-eq0
returns-then-c-eq0 c = let a = c.args in set_more a.p.luma a.i a.c.first a.c.carry _ c.if-c.false c.if-c-eq0.true c.first_set-set.ensures

pub returns-else-c-eq0 : goal.returns-else-c-eq0
returns-else-c-eq0 c = let a = c.args in set_same a.p.luma a.i a.c.first a.c.carry _ c.if-c.false c.if-c-eq0.false c.first_set-set.ensures

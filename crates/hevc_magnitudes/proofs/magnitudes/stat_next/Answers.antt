use mathlib.Core.Path.{◌∙◌}
use Rattle.hevc_magnitudes.specs.MagnitudeLaws.{stat_up, stat_down, stat_stays}
use Rattle.hevc_magnitudes.proofs.magnitudes.stat_next.Goals as goal

pub returns-then-q-v : goal.returns-then-q-v
returns-then-q-v c = let a = c.args in stat_up a.s a.v c.requires.0 c.if-q-v.true

pub returns-then-v-q : goal.returns-then-v-q
returns-then-v-q c = let a = c.args in c.saturating_sub.ensures ∙ stat_down a.s a.v c.requires.0 c.if-q-v.false c.if-v-q.true

pub returns-else-v-q : goal.returns-else-v-q
returns-else-v-q c = let a = c.args in stat_stays a.s a.v c.requires.0 c.if-q-v.false c.if-v-q.false

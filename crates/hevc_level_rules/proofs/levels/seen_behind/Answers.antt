use Rattle.hevc_rules.specs.DueLaws.{seen_none, seen_even, seen_odd}
use Rattle.hevc_level_rules.proofs.levels.seen_behind.Goals as goal

-- `seen_behind` meets its contract. Assumes nothing.
pub returns-then-bins-eq0 : goal.returns-then-bins-eq0
returns-then-bins-eq0 c =
    let a = c.args in
    seen_none a.mask a.bins a.seen c.if-bins-eq0.true

pub returns-then-mask-eq0 : goal.returns-then-mask-eq0
returns-then-mask-eq0 c =
    let a = c.args in
    seen_even a.mask a.bins a.seen c.if-bins-eq0.false c.if-mask-eq0.true

pub returns : goal.returns
returns c =
    let a = c.args in
    seen_odd a.mask a.bins a.seen c.if-bins-eq0.false c.if-mask-eq0.false

use Rattle.hevc_rules.specs.DueLaws.{based_none, based_even, based_seen, based_three, based_two}
use Rattle.hevc_level_rules.proofs.levels.base_of.Goals as goal

-- `base_of` meets its contract. Assumes nothing.
pub returns-then-bins-eq0 : goal.returns-then-bins-eq0
returns-then-bins-eq0 c =
    let a = c.args in
    based_none a.mask a.bins a.seen a.greater2 c.if-bins-eq0.true

pub returns-then-mask-eq0 : goal.returns-then-mask-eq0
returns-then-mask-eq0 c =
    let a = c.args in
    based_even a.mask a.bins a.seen a.greater2 c.if-bins-eq0.false c.if-mask-eq0.true

pub returns-then-seen : goal.returns-then-seen
returns-then-seen c =
    let a = c.args in
    based_seen a.mask a.bins a.seen a.greater2 c.if-bins-eq0.false c.if-mask-eq0.false c.if-seen.true

pub returns-then-greater2 : goal.returns-then-greater2
returns-then-greater2 c =
    let a = c.args in
    based_three a.mask a.bins a.seen a.greater2 c.if-bins-eq0.false c.if-mask-eq0.false c.if-seen.false c.if-greater2.true

pub returns : goal.returns
returns c =
    let a = c.args in
    based_two a.mask a.bins a.seen a.greater2 c.if-bins-eq0.false c.if-mask-eq0.false c.if-seen.false c.if-greater2.false

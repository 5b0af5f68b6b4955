use native.Mathlib.Omega.{arith}
use Rattle.bins.specs.StepLaws.{passed_on}
use Rattle.h264_levels.specs.LevelCode.{leveling_begins, levels_ended, levels_skip, levels_refused, levels_one, levels_big}
use Rattle.h264_levels.proofs.levels.levels.Goals as goal

pub loop-k-init : goal.loop-k-init
loop-k-init c = let a = c.args in leveling_begins a.list a.bytes.now a.marks.now a.x a.contexts.now a.block.now c.requires.0

pub one_level-requires : goal.one_level-requires
one_level-requires c = (c.loop-k.invariant.reads, omega (arith, c.loop-k.invariant.few), c.requires.1)

pub returns-in_err-v : goal.returns-in_err-v
returns-in_err-v c =
    let a = c.args in
    rw (passed_on c.from_residual.result _ c.from_residual.ensures.1)
    (levels_refused a.list a.bytes.now a.marks.now a.x a.contexts.now a.block.now c.loop-k.y c.loop-k.contexts c.loop-k.block c.loop-k.k c.loop-k.ones c.loop-k.bigs
    c.loop-k.invariant c.loop-k-test.true c.if-marks-k.true c.one_level.result c.one_level.new.contexts
    c.one_level.new.block c.one_level.ensures _ c.in_err-v.was)

pub loop-k-preserved-then-v-eq0 : goal.loop-k-preserved-then-v-eq0
loop-k-preserved-then-v-eq0 c =
    let a = c.args in
    levels_one a.list a.bytes.now a.marks.now a.x a.contexts.now a.block.now c.loop-k.y c.loop-k.contexts c.loop-k.block c.loop-k.k c.loop-k.ones c.loop-k.bigs c.loop-k.invariant
    c.loop-k-test.true c.if-marks-k.true c.one_level.result c.one_level.new.contexts c.one_level.new.block
    c.one_level.ensures _ _ c.in_ok-v.was c.if-v-eq0.true

pub loop-k-preserved-else-v-eq0 : goal.loop-k-preserved-else-v-eq0
loop-k-preserved-else-v-eq0 c =
    let a = c.args in
    levels_big a.list a.bytes.now a.marks.now a.x a.contexts.now a.block.now c.loop-k.y c.loop-k.contexts c.loop-k.block c.loop-k.k c.loop-k.ones c.loop-k.bigs c.loop-k.invariant
    c.loop-k-test.true c.if-marks-k.true c.one_level.result c.one_level.new.contexts c.one_level.new.block
    c.one_level.ensures _ _ c.in_ok-v.was c.if-v-eq0.false

pub loop-k-preserved : goal.loop-k-preserved
loop-k-preserved c =
    let a = c.args in
    levels_skip a.list a.bytes.now a.marks.now a.x a.contexts.now a.block.now c.loop-k.y c.loop-k.contexts c.loop-k.block c.loop-k.k c.loop-k.ones c.loop-k.bigs c.loop-k.invariant
    c.loop-k-test.true c.if-marks-k.false

pub returns : goal.returns
returns c =
    let a = c.args in
    levels_ended a.list a.bytes.now a.marks.now a.x a.contexts.now a.block.now c.loop-k.y c.loop-k.contexts c.loop-k.block c.loop-k.k c.loop-k.ones c.loop-k.bigs
    c.loop-k.invariant (omega arith)

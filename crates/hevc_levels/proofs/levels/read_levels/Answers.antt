use mathlib.Core.Path.{sym, ◌∙◌}
use native.Mathlib.Omega.{arith}
use Rattle.bins.specs.StepLaws.{passed_on}
use Rattle.hevc_residual.specs.Scan.{spot}
use Rattle.hevc_levels.specs.LevelLaws.{levels_begin, levels_refused, levels_less, levels_on, levels_end}
use Rattle.hevc_levels.specs.StoredLaws.{keeps_leveled}
use Rattle.hevc_levels.proofs.levels.read_levels.Goals as goal

pub loop-i-init : goal.loop-i-init
loop-i-init c =
    let a = c.args in
    let h = c.requires in
    (levels_begin a.p (spot a.xs a.ys) a.list a.bytes.now a.greater2 a.signs a.start a.x a.block.now h.5 h.0 h.3, h.6, omega arith)

pub one_level-requires : goal.one_level-requires
one_level-requires c =
    let h = c.requires in
    let i = c.loop-i.invariant in
    (i.0.readable, h.1, h.2, i.0.long, h.4, i.0.fine, omega arith, i.1)

pub shape_of-block-in_err-going : goal.shape_of-block-in_err-going
shape_of-block-in_err-going c = c.one_level.ensures.0 ∙ sym c.requires.3

pub returns-in_err-going : goal.returns-in_err-going
returns-in_err-going c =
    let a = c.args in
    let h = c.requires in
    rw (passed_on c.from_residual.result _ c.from_residual.ensures.1)
    (c.one_level.ensures.0, levels_refused a.p (spot a.xs a.ys) a.list a.bytes.now a.greater2 a.signs a.start a.x a.block.now c.loop-i.g c.loop-i.y c.loop-i.block c.loop-i.invariant.0 c.one_level.result c.one_level.new.block c.one_level.ensures.0 c.one_level.ensures.1 _ c.in_err-going.was, tt)

pub loop-i-preserved : goal.loop-i-preserved
loop-i-preserved c =
    let a = c.args in
    let less = levels_less a.p (spot a.xs a.ys) a.list a.bytes.now a.greater2 a.signs a.start a.x a.block.now c.loop-i.g c.loop-i.y c.loop-i.block c.loop-i.invariant.0 c.one_level.result c.one_level.new.block c.one_level.ensures.0 c.one_level.ensures.1 _ c.in_ok-going.was in
    (levels_on a.p (spot a.xs a.ys) a.list a.bytes.now a.greater2 a.signs a.start a.x a.block.now c.loop-i.g c.loop-i.y c.loop-i.block c.loop-i.invariant.0 c.one_level.result c.one_level.new.block c.one_level.ensures.0 c.one_level.ensures.1 _ c.in_ok-going.was, keeps_leveled a.p c.one_level.result _ c.one_level.new.block c.one_level.ensures.2 c.in_ok-going.was, omega (arith, less))

pub shape_of-block : goal.shape_of-block
shape_of-block c = c.loop-i.invariant.0.long ∙ sym c.requires.3

pub returns : goal.returns
returns c =
    let a = c.args in
    let h = c.requires in
    let e = levels_end a.p (spot a.xs a.ys) a.list a.bytes.now a.greater2 a.signs a.start a.x a.block.now c.loop-i.g c.loop-i.y c.loop-i.block c.loop-i.invariant.0 (omega arith) c.loop-i.k in
    (e.0, e.1, c.loop-i.invariant.1)

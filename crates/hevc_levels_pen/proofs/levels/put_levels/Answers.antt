use native.Mathlib.Omega.{arith}
use Rattle.pen.specs.Sheet.{sheet}
use Rattle.hevc_levels_pen.specs.LevelsPuts.{levels_begin, levels_on, levels_end}
use Rattle.hevc_levels_pen.proofs.levels.put_levels.Goals as goal

pub loop-g-init : goal.loop-g-init
loop-g-init c = let a = c.args in levels_begin a.p a.levels.now a.greater2 a.start (sheet a.room.now a.pen) c.requires.2

pub put_level-r-requires : goal.put_level-r-requires
put_level-r-requires c = (
  c.requires.0,
  c.requires.1,
  c.loop-g.invariant.fine,
  c.loop-g-test.true,
)

pub loop-g-smaller : goal.loop-g-smaller
loop-g-smaller c = omega (arith, c.put_level-r.ensures.1)

pub loop-g-preserved : goal.loop-g-preserved
loop-g-preserved c =
    let a = c.args in
    levels_on a.p a.levels.now a.greater2 a.start (sheet a.room.now a.pen) c.loop-g.g (sheet c.loop-g.room c.loop-g.y) c.loop-g.invariant
    c.put_level-r.result.going _ c.room-1.given c.put_level-r.ensures.0 c.put_level-r.ensures.2

pub shape_of-room : goal.shape_of-room
shape_of-room c = c.loop-g.invariant.long

pub returns : goal.returns
returns c =
    let a = c.args in
    levels_end a.p a.levels.now a.greater2 a.start (sheet a.room.now a.pen) c.loop-g.g (sheet c.loop-g.room c.loop-g.y) c.loop-g.invariant
    (omega (arith, c.loop-g-test.false))

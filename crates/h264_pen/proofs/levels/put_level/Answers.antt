use Rattle.h264_pen.specs.LevelPuts.{level_small, level_coded}
use Rattle.trees.specs.Levels.{negative}
use mir.Facts.{to_z-of_z}
use lib.IntN.{nat_abs}
use mathlib.Core.Path.{◌≡◌, ap, ◌∙◌}
use native.Mathlib.Omega.{arith}
use Rattle.h264_pen.proofs.levels.put_level.Goals as goal

pub overflow_sub-magnitude : goal.overflow_sub-magnitude
overflow_sub-magnitude c =
    let e : c.magnitude.result ≡ nat_abs c.args.level = c.magnitude.ensures ∙ ap nat_abs (to_z-of_z c.ranges.level) in
    omega (arith, e, c.requires.0)

pub put_magnitude-y-requires : goal.put_magnitude-y-requires
put_magnitude-y-requires c =
    let a = c.args in
    let e : c.magnitude.result ≡ nat_abs a.level = c.magnitude.ensures ∙ ap nat_abs (to_z-of_z c.ranges.level) in
    omega (arith, e, level_small a.ones a.bigs a.level c.requires.0 c.requires.1)

pub returns : goal.returns
returns c = λ w k ks l q. let a = c.args in let f = to_z-of_z c.ranges.level in level_coded a.ones a.bigs a.level c.requires.0 c.requires.1 w k ks l q _ _ _ c.magnitude.result c.is_negative.result (c.magnitude.ensures ∙ ap nat_abs f) (c.is_negative.ensures ∙ ap negative f) c.put_magnitude-y.ensures c.put_bypass.ensures

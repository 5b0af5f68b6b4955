use mathlib.Core.Path.{subst}
use lib.IntN.{ℤ}
use mir.Facts.{to_z-of_z}
use Rattle.hevc_summary.specs.Agree.{kept_of, after_of, SetSays}
use Rattle.bulmegart_kept.proofs.changes.bulmegart_set_level.Goals as goal

pub returns : goal.returns
returns c =
    let a = c.args in
    subst (λ (z : ℤ). SetSays a.form a.place z (kept_of a.levels.now a.counts.now a.sums.now a.whole) (after_of c.set_level.result c.set_level.new.levels c.set_level.new.counts c.set_level.new.sums))
    (to_z-of_z c.ranges.level) c.set_level.ensures

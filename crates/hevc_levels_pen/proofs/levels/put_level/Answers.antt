use native.Mathlib.Omega.{arith}
use mathlib.Core.Path.{ap, ◌∙◌}
use Prim.Native.Nat.{◌%◌}
use lib.IntN.{pos, nat_abs}
use lib.ListN.{get_or}
use mir.Syntax.{w32}
use mir.Val.{SFits}
use mir.Facts.{to_z-of_z}
use Rattle.hevc_levels_pen.specs.LevelsPuts.{rest_small, magnitude_small, level_puts}
use Rattle.hevc_levels_pen.proofs.levels.put_level.Goals as goal

pub put_extra-y-requires : goal.put_extra-y-requires
put_extra-y-requires c =
    let a = c.args in
    let f : SFits w32 (get_or a.levels.now (a.g.places % 16) (pos 0)) = record { sfits = c.magnitude-arg-1.given } in
    let is = c.magnitude.ensures ∙ ap nat_abs (to_z-of_z f) in (
      c.requires.0,
      c.requires.2.rice,
      rest_small a.p a.levels.now a.greater2 a.g c.base_of-d.result.level c.base_of-d.result.more c.requires.0 c.requires.1 c.requires.2
          c.requires.3 c.base_of-d.ensures c.magnitude.result is c.saturating_sub-rest.result c.saturating_sub-rest.ensures,
    )

pub overflow_add-m : goal.overflow_add-m
overflow_add-m c =
    let a = c.args in
    let f : SFits w32 (get_or a.levels.now (a.g.places % 16) (pos 0)) = record { sfits = c.magnitude-arg-1.given } in
    let is = c.magnitude.ensures ∙ ap nat_abs (to_z-of_z f) in
    omega (
      arith,
      magnitude_small a.p a.levels.now a.greater2 a.g c.base_of-d.result.level c.base_of-d.result.more c.requires.0 c.requires.1
          c.requires.2 c.requires.3 c.base_of-d.ensures c.magnitude.result is c.saturating_sub-rest.result c.value_if-v.result
          c.saturating_sub-rest.ensures c.value_if-v.ensures,
    )

pub overflow_add-g : goal.overflow_add-g
overflow_add-g c =
    let a = c.args in
    let f : SFits w32 (get_or a.levels.now (a.g.places % 16) (pos 0)) = record { sfits = c.magnitude-arg-1.given } in
    let is = c.magnitude.ensures ∙ ap nat_abs (to_z-of_z f) in
    omega (
      arith,
      magnitude_small a.p a.levels.now a.greater2 a.g c.base_of-d.result.level c.base_of-d.result.more c.requires.0 c.requires.1
          c.requires.2 c.requires.3 c.base_of-d.ensures c.magnitude.result is c.saturating_sub-rest.result c.value_if-v.result
          c.saturating_sub-rest.ensures c.value_if-v.ensures,
      c.requires.2.sum,
    )

pub behind-going-requires : goal.behind-going-requires
behind-going-requires c =
    let a = c.args in
    let f : SFits w32 (get_or a.levels.now (a.g.places % 16) (pos 0)) = record { sfits = c.magnitude-arg-1.given } in
    let is = c.magnitude.ensures ∙ ap nat_abs (to_z-of_z f) in (
      c.requires.2,
      c.requires.3,
      omega (
        arith,
        magnitude_small a.p a.levels.now a.greater2 a.g c.base_of-d.result.level c.base_of-d.result.more c.requires.0 c.requires.1
            c.requires.2 c.requires.3 c.base_of-d.ensures c.magnitude.result is c.saturating_sub-rest.result
            c.value_if-v.result c.saturating_sub-rest.ensures c.value_if-v.ensures,
      ),
    )

pub returns : goal.returns
returns c =
    let a = c.args in
    let f : SFits w32 (get_or a.levels.now (a.g.places % 16) (pos 0)) = record { sfits = c.magnitude-arg-1.given } in
    let is = c.magnitude.ensures ∙ ap nat_abs (to_z-of_z f) in
    level_puts a.p a.levels.now a.greater2 a.g c.base_of-d.result.level c.base_of-d.result.more c.requires.0 c.requires.1 c.requires.2
    c.requires.3 c.base_of-d.ensures c.magnitude.result is c.saturating_sub-rest.result c.value_if-v.result
    c.saturating_sub-rest.ensures c.value_if-v.ensures c.behind-going.result c.behind-going.ensures _ _ c.put_extra-y.ensures

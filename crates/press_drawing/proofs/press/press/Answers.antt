use native.Mathlib.Omega.{arith}
use mathlib.Core.Path.{refl, sym, ◌∙◌}
use lib.ListN.{length}
use Rattle.std.proofs.lemmas.Result.{err_from_is_err_and}
use Rattle.cabac.specs.NumberLaws.{checked_ok, checked_err}
use Rattle.press_frame.specs.PressedLaws.{handed}
use Rattle.press_frame.specs.PressCode.{refused_first, list_fits, list_count, list_said, list_no_lem}
use Rattle.press_drawing.proofs.press.press.Goals as goal

pub returns-in_err-passed : goal.returns-in_err-passed
returns-in_err-passed c =
    let a = c.args in
    let p = err_from_is_err_and c.from_residual.result c.from_residual.ensures.1 in
    let k = checked_err _ _ c.in_err-passed.ensures in
    rw (p.1, p.2) (refused_first (length a.room.now) _ a.head.now a.values.now a.levels.now (k.0 ∙ c.handed_refusal.ensures) k.1, refl)

pub params-requires : goal.params-requires
params-requires c =
    let a = c.args in
    let h = handed (length a.room.now) a.head.now a.values.now (sym (checked_ok _ c.in_ok-passed.ensures ∙ c.handed_refusal.ensures)) in
    omega (arith, h.six)

pub slice_bounds-list-end : goal.slice_bounds-list-end
slice_bounds-list-end c =
    let a = c.args in
    list_fits (length a.room.now) _ a.head.now a.values.now a.levels.now (checked_ok _ c.in_ok-passed.ensures ∙ c.handed_refusal.ensures) refl _
    c.params.ensures _ _ _ c.write_bins-written.ensures.0 _ c.in-Ok.is

pub slice_bounds-pack_drawing-end : goal.slice_bounds-pack_drawing-end
slice_bounds-pack_drawing-end c =
    let a = c.args in
    list_count (length a.room.now) _ a.head.now a.values.now a.levels.now (checked_ok _ c.in_ok-passed.ensures ∙ c.handed_refusal.ensures) refl _
    c.params.ensures _ _ _ c.write_bins-written.ensures.0 _ c.in-Ok.is

pub pack_drawing-requires : goal.pack_drawing-requires
pack_drawing-requires c =
    let a = c.args in
    let h = handed (length a.room.now) a.head.now a.values.now (sym (checked_ok _ c.in_ok-passed.ensures ∙ c.handed_refusal.ensures)) in
    (h.six, h.many, h.wide)

pub returns : goal.returns
returns c =
    let a = c.args in
    let x = c.pack_drawing.ensures in (
      list_said (length a.room.now) _ a.head.now a.values.now a.levels.now (checked_ok _ c.in_ok-passed.ensures ∙ c.handed_refusal.ensures) refl _
          c.params.ensures _ _ _ c.write_bins-written.ensures.0 _ _ c.in-Ok.is x.0,
      x.1,
    )

pub returns-in-Err : goal.returns-in-Err
returns-in-Err c =
    let a = c.args in (
      list_no_lem (length a.room.now) _ a.head.now a.values.now a.levels.now (checked_ok _ c.in_ok-passed.ensures ∙ c.handed_refusal.ensures) refl _
          c.params.ensures _ _ _ c.write_bins-written.ensures.0 _ c.in-Err.is,
      refl,
    )

use Rattle.std.specs.Prelude.{Ok, Err}
use mathlib.Core.Path.{sym, ap, ◌∙◌}
use lib.IntN.{nat_abs}
use mir.Facts.{to_z-of_z}
use Rattle.std.proofs.lemmas.Result.{err_from_is_err_and}
use Rattle.cabac.specs.NumberLaws.{checked_ok, checked_err}
use Rattle.hevc_residual.specs.Wanted.{negative}
use Rattle.hevc_scale_writer.specs.WriteAgree.{value_of}
use Rattle.hevc_scale_writer.specs.Demand3.{promised}
use Rattle.hevc_scale.specs.EntriesLaws.{component_passed}
use Rattle.hevc_scale_writer.specs.WriteLaws.{value_says, any, refused_first, refused_second, no_room, all_written}
use Rattle.hevc_scale_writer.proofs.entries.write_scale_bins.Goals as goal

pub returns-in_err-passed : goal.returns-in_err-passed
returns-in_err-passed c =
    let a = c.args in
    let p = err_from_is_err_and c.from_residual.result c.from_residual.ensures.1 in
    let k = checked_err _ _ c.in_err-passed.ensures in
    rw (p.1, p.2)
    (promised a.component a.scale a.room.now (Err _) a.room.now (refused_first a.component a.scale a.room.now _ (k.0 ∙ c.component_refusal.ensures) k.1))

pub returns-in_default : goal.returns-in_default
returns-in_default c =
    let a = c.args in
    let h = checked_ok _ c.in_ok-passed.ensures ∙ c.component_refusal.ensures in
    let y = value_says a.scale c.value.result (c.value.ensures ∙ ap (λ z. value_of (nat_abs z)) (to_z-of_z c.ranges.scale)) in
    promised a.component a.scale a.room.now (Err 4) a.room.now
    (refused_second a.component a.scale a.room.now h (y.0 c.in_default.is))

pub put_scale-counted-requires : goal.put_scale-counted-requires
put_scale-counted-requires c =
    let a = c.args in
    let h = checked_ok _ c.in_ok-passed.ensures ∙ c.component_refusal.ensures in
    let y = value_says a.scale c.value.result (c.value.ensures ∙ ap (λ z. value_of (nat_abs z)) (to_z-of_z c.ranges.scale)) in
    (component_passed a.component h, (y.1 _ c.in-Some.is).0)

pub returns-then-counted : goal.returns-then-counted
returns-then-counted c =
    let a = c.args in
    let h = checked_ok _ c.in_ok-passed.ensures ∙ c.component_refusal.ensures in
    let y = value_says a.scale c.value.result (c.value.ensures ∙ ap (λ z. value_of (nat_abs z)) (to_z-of_z c.ranges.scale)) in
    let u = y.1 _ c.in-Some.is in
    promised a.component a.scale a.room.now (Err 12) c.put_scale-counted.new.room
    (no_room a.component a.scale a.room.now h u.2 c.put_scale-counted.new.room c.put_scale-counted.result
    (c.put_scale-counted.ensures a.scale any u.1 (sym (c.is_negative-sign.ensures ∙ ap negative (to_z-of_z c.ranges.scale)))) c.if-counted.true)

pub put_scale-written-requires : goal.put_scale-written-requires
put_scale-written-requires c =
    let a = c.args in
    let h = checked_ok _ c.in_ok-passed.ensures ∙ c.component_refusal.ensures in
    let y = value_says a.scale c.value.result (c.value.ensures ∙ ap (λ z. value_of (nat_abs z)) (to_z-of_z c.ranges.scale)) in
    (component_passed a.component h, (y.1 _ c.in-Some.is).0)

pub returns : goal.returns
returns c =
    let a = c.args in
    let h = checked_ok _ c.in_ok-passed.ensures ∙ c.component_refusal.ensures in
    let y = value_says a.scale c.value.result (c.value.ensures ∙ ap (λ z. value_of (nat_abs z)) (to_z-of_z c.ranges.scale)) in
    let u = y.1 _ c.in-Some.is in
    promised a.component a.scale a.room.now (Ok c.put_scale-written.result.at) c.put_scale-written.new.room
    (all_written a.component a.scale a.room.now h u.2 c.put_scale-counted.new.room c.put_scale-counted.result
    (c.put_scale-counted.ensures a.scale any u.1 (sym (c.is_negative-sign.ensures ∙ ap negative (to_z-of_z c.ranges.scale)))) c.if-counted.false c.put_scale-written.new.room c.put_scale-written.result
    (c.put_scale-written.ensures a.scale any u.1 (sym (c.is_negative-sign.ensures ∙ ap negative (to_z-of_z c.ranges.scale)))))

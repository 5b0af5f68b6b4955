use Rattle.std.specs.Prelude.{Err}
use mathlib.Core.Path.{◌∙◌}
use Rattle.std.proofs.lemmas.Result.{err_from_is_err_and}
use Rattle.cabac.specs.NumberLaws.{checked_ok, checked_err}
use Rattle.hevc_packer.specs.EntryCode.{scale_first, scale_second, scale_refused_list, scale_packable, scale_is_packed}
use Rattle.hevc_packer.specs.Promise.{scale_promised}
use borrow.Author.Rules.{rules}
use Rattle.hevc_packer.proofs.entries.pack_scale.Goals as goal

pub returns-in_err-passed : goal.returns-in_err-passed
returns-in_err-passed c =
    let a = c.args in
    let p = err_from_is_err_and c.from_residual.result c.from_residual.ensures.1 in
    let k = checked_err _ _ c.in_err-passed.ensures in
    rw (p.1, p.2) (scale_promised a.contexts.now a.component a.list.now a.room.now (Err _) a.room.now (scale_first a.contexts.now a.component a.list.now a.room.now _ (k.0 ∙ c.component_refusal.ensures) k.1))

pub returns-in_err-passed-2 : goal.returns-in_err-passed-2
returns-in_err-passed-2 c =
    let a = c.args in
    let p = err_from_is_err_and c.from_residual-in_err-passed-2.result c.from_residual-in_err-passed-2.ensures.1 in
    let k = checked_err _ _ c.in_err-passed-2.ensures in
    rw (p.1, p.2) (scale_promised a.contexts.now a.component a.list.now a.room.now (Err _) a.room.now (scale_second a.contexts.now a.component a.list.now a.room.now
    (checked_ok _ c.in_ok-passed.ensures ∙ c.component_refusal.ensures) _ (k.0 ∙ c.above_refusal.ensures) k.1))

pub returns-in_default : goal.returns-in_default
returns-in_default c =
    let a = c.args in
    let z = checked_ok _ c.in_ok-passed.ensures ∙ c.component_refusal.ensures in
    let y = checked_ok _ c.in_ok-passed-2.ensures ∙ c.above_refusal.ensures in
    scale_promised a.contexts.now a.component a.list.now a.room.now (Err 13) a.room.now (scale_refused_list a.contexts.now a.component a.list.now a.room.now z y c.read_scale_bins-r.result c.read_scale_bins-r.ensures _ c.in_default.is)

pub pack_from-requires : goal.pack_from-requires
pack_from-requires c =
    let a = c.args in
    let z = checked_ok _ c.in_ok-passed.ensures ∙ c.component_refusal.ensures in
    let y = checked_ok _ c.in_ok-passed-2.ensures ∙ c.above_refusal.ensures in
    let k = scale_packable a.contexts.now a.component a.list.now a.room.now z y c.read_scale_bins-r.result c.read_scale_bins-r.ensures _ c.in-Ok.is in
    (k.0, search rules, k.1)

pub returns : goal.returns
returns c =
    let a = c.args in
    let z = checked_ok _ c.in_ok-passed.ensures ∙ c.component_refusal.ensures in
    let y = checked_ok _ c.in_ok-passed-2.ensures ∙ c.above_refusal.ensures in
    scale_promised a.contexts.now a.component a.list.now a.room.now c.pack_from.result c.pack_from.new.room (scale_is_packed a.contexts.now a.component a.list.now a.room.now z y c.read_scale_bins-r.result c.read_scale_bins-r.ensures _ c.in-Ok.is _ c.pack_from.ensures)

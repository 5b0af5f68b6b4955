use Rattle.std.specs.Prelude.{Err}
use mathlib.Core.Path.{◌∙◌}
use Rattle.std.proofs.lemmas.Result.{err_from_is_err_and}
use Rattle.cabac.specs.NumberLaws.{checked_ok, checked_err}
use Rattle.hevc_packer.specs.EntryCode.{refused_first, refused_list, packable, is_packed}
use Rattle.hevc_packer.specs.Promise.{promised}
use borrow.Author.Rules.{rules}
use Rattle.hevc_block_packer.proofs.entries.pack_bins.Goals as goal

pub returns-in_err-passed : goal.returns-in_err-passed
returns-in_err-passed c =
    let a = c.args in
    let p = err_from_is_err_and c.from_residual.result c.from_residual.ensures.1 in
    let k = checked_err _ _ c.in_err-passed.ensures in
    rw (p.1, p.2) (promised a.contexts.now a.stats.now a.p a.list.now a.room.now (Err _) a.room.now (refused_first a.contexts.now a.stats.now a.p a.list.now a.room.now _ (k.0 ∙ c.pack_checks.ensures) k.1))

pub returns-in_default : goal.returns-in_default
returns-in_default c =
    let a = c.args in
    let pass = checked_ok _ c.in_ok-passed.ensures ∙ c.pack_checks.ensures in
    promised a.contexts.now a.stats.now a.p a.list.now a.room.now (Err 13) a.room.now (refused_list a.contexts.now a.stats.now a.p a.list.now a.room.now pass c.read_bins-r.result c.read_bins-r.new.stats c.read_bins-r.new.block c.read_bins-r.ensures _ c.in_default.is)

pub pack_from-requires : goal.pack_from-requires
pack_from-requires c =
    let a = c.args in
    let pass = checked_ok _ c.in_ok-passed.ensures ∙ c.pack_checks.ensures in
    let k = packable a.contexts.now a.stats.now a.p a.list.now a.room.now pass c.read_bins-r.result c.read_bins-r.new.stats c.read_bins-r.new.block c.read_bins-r.ensures _ c.in-Ok.is in
    (k.0, search rules, k.1)

pub returns : goal.returns
returns c =
    let a = c.args in
    let pass = checked_ok _ c.in_ok-passed.ensures ∙ c.pack_checks.ensures in
    promised a.contexts.now a.stats.now a.p a.list.now a.room.now c.pack_from.result c.pack_from.new.room (is_packed a.contexts.now a.stats.now a.p a.list.now a.room.now pass c.read_bins-r.result c.read_bins-r.new.stats c.read_bins-r.new.block c.read_bins-r.ensures _ c.in-Ok.is _ c.pack_from.ensures)

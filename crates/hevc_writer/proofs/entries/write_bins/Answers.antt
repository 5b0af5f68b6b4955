use Rattle.std.specs.Prelude.{Ok, Err}
use mathlib.Core.Path.{sym, ap, ◌∙◌}
use lib.ListN.{length, take}
use Rattle.std.proofs.lemmas.Result.{err_from_is_err_and}
use Rattle.cabac.specs.NumberLaws.{checked_ok, checked_err}
use Rattle.hevc_writer.specs.Demand3.{promised}
use Rattle.hevc_writer.specs.EntriesPuts.{refused_first, accepts, front_long, statistics, refused_second, no_room, all_written}
use Rattle.hevc_writer.proofs.entries.write_bins.Goals as goal

pub returns-in_err-passed : goal.returns-in_err-passed
returns-in_err-passed c =
    let a = c.args in
    let p = err_from_is_err_and c.from_residual.result c.from_residual.ensures.1 in
    let k = checked_err _ _ c.in_err-passed.ensures in
    rw (p.1, p.2)
    (promised a.p a.stats.now a.block.now a.skip a.rdpcm a.room.now (Err _) _ _
    (refused_first a.p a.stats.now a.block.now a.skip a.rdpcm a.room.now _ (k.0 ∙ c.bins_checks.ensures) k.1))

pub area_of-requires : goal.area_of-requires
area_of-requires c =
    let a = c.args in
    let pass = checked_ok _ c.in_ok-passed.ensures ∙ c.bins_checks.ensures in
    let k = accepts a.p a.stats.now a.block.now a.skip a.rdpcm a.room.now pass in
    (k.least, k.most)

pub slice_bounds-levels-end : goal.slice_bounds-levels-end
slice_bounds-levels-end c =
    let a = c.args in
    let pass = checked_ok _ c.in_ok-passed.ensures ∙ c.bins_checks.ensures in
    c.area_of.ensures ∙ sym (ap (λ k. length (take k a.block.now)) c.area_of.ensures ∙ front_long a.p a.stats.now a.block.now a.skip a.rdpcm a.room.now pass)

pub write_refusal-requires : goal.write_refusal-requires
write_refusal-requires c =
    let a = c.args in
    let pass = checked_ok _ c.in_ok-passed.ensures ∙ c.bins_checks.ensures in
    let el = ap (λ k. take k a.block.now) c.area_of.ensures in (
      accepts a.p a.stats.now a.block.now a.skip a.rdpcm a.room.now pass,
      ap length el ∙ front_long a.p a.stats.now a.block.now a.skip a.rdpcm a.room.now pass,
    )

pub returns-in_err-passed-2 : goal.returns-in_err-passed-2
returns-in_err-passed-2 c =
    let a = c.args in
    let p = err_from_is_err_and c.from_residual-in_err-passed-2.result c.from_residual-in_err-passed-2.ensures.1 in
    let k = checked_err _ _ c.in_err-passed-2.ensures in
    let pass = checked_ok _ c.in_ok-passed.ensures ∙ c.bins_checks.ensures in
    let el = ap (λ k. take k a.block.now) c.area_of.ensures in
    rw (p.1, p.2)
    (promised a.p a.stats.now a.block.now a.skip a.rdpcm a.room.now (Err _) _ _
    (refused_second a.p a.stats.now a.block.now a.skip a.rdpcm a.room.now pass (take c.area_of.result a.block.now) el
    _ (k.0 ∙ c.write_refusal.ensures) k.1))

pub has_room-requires : goal.has_room-requires
has_room-requires c =
    let a = c.args in
    let pass = checked_ok _ c.in_ok-passed.ensures ∙ c.bins_checks.ensures in
    let el = ap (λ k. take k a.block.now) c.area_of.ensures in (
      accepts a.p a.stats.now a.block.now a.skip a.rdpcm a.room.now pass,
      ap length el ∙ front_long a.p a.stats.now a.block.now a.skip a.rdpcm a.room.now pass,
      statistics a.p a.stats.now a.block.now a.skip a.rdpcm a.room.now pass,
      sym (checked_ok _ c.in_ok-passed-2.ensures ∙ c.write_refusal.ensures),
    )

pub returns-then-not-has_room : goal.returns-then-not-has_room
returns-then-not-has_room c =
    let a = c.args in
    let pass = checked_ok _ c.in_ok-passed.ensures ∙ c.bins_checks.ensures in
    let el = ap (λ k. take k a.block.now) c.area_of.ensures in
    let ok = sym (checked_ok _ c.in_ok-passed-2.ensures ∙ c.write_refusal.ensures) in
    promised a.p a.stats.now a.block.now a.skip a.rdpcm a.room.now (Err 12) _ _
    (no_room a.p a.stats.now a.block.now a.skip a.rdpcm a.room.now pass (take c.area_of.result a.block.now) el ok _ c.has_room.ensures.0
    c.has_room.result c.has_room.ensures.1 c.if-not-has_room.true)

pub put_block-written-requires : goal.put_block-written-requires
put_block-written-requires c =
    let a = c.args in
    let pass = checked_ok _ c.in_ok-passed.ensures ∙ c.bins_checks.ensures in
    let el = ap (λ k. take k a.block.now) c.area_of.ensures in (
      accepts a.p a.stats.now a.block.now a.skip a.rdpcm a.room.now pass,
      ap length el ∙ front_long a.p a.stats.now a.block.now a.skip a.rdpcm a.room.now pass,
      statistics a.p a.stats.now a.block.now a.skip a.rdpcm a.room.now pass,
      sym (checked_ok _ c.in_ok-passed-2.ensures ∙ c.write_refusal.ensures),
    )

pub returns : goal.returns
returns c =
    let a = c.args in
    let pass = checked_ok _ c.in_ok-passed.ensures ∙ c.bins_checks.ensures in
    let el = ap (λ k. take k a.block.now) c.area_of.ensures in
    let ok = sym (checked_ok _ c.in_ok-passed-2.ensures ∙ c.write_refusal.ensures) in
    promised a.p a.stats.now a.block.now a.skip a.rdpcm a.room.now (Ok c.put_block-written.result.at) _ _
    (all_written a.p a.stats.now a.block.now a.skip a.rdpcm a.room.now pass (take c.area_of.result a.block.now) el ok _ c.has_room.ensures.0
    c.has_room.result c.has_room.ensures.1 c.if-not-has_room.false _ _ c.put_block-written.result c.put_block-written.ensures)

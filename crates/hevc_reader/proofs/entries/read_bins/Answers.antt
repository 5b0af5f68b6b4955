use Prim.Native.Nat.{ℕ, ◌≤◌}
use mathlib.Core.Path.{refl, sym, subst, ◌∙◌}
use mathlib.Core.List.{List}
use native.Mathlib.Omega.{arith}
use lib.ListN.{length, replicate}
use Rattle.std.proofs.lemmas.Result.{err_from_is_err_and}
use Rattle.cabac.specs.NumberLaws.{checked_ok, checked_err}
use Rattle.bins.specs.Tags.{context_count}
use Rattle.bins.specs.declared.state.Interval.{Interval}
use Rattle.hevc_residual.specs.Wanted.{area}
use Rattle.hevc_checks.specs.ChecksLaws.{zeros_packed}
use Rattle.hevc_reader.specs.EntriesLaws.{bins_no, bins_passed, bins_refused, bins_over, bins_got}
use Rattle.hevc_reader.proofs.entries.read_bins.Goals as goal

-- `read_bins` meets its contract: one equation for each way out. Assumes nothing.
-- where the list's reading starts; the start of the function; that the checks passed
abbrev front : Interval
front = record { range = 256; offset = 0; position = record { 0 = 0 } }

abbrev zeros : List ℕ
zeros = replicate context_count 0

pub returns-in_err-passed : goal.returns-in_err-passed
returns-in_err-passed c =
    let a = c.args in
    let p = err_from_is_err_and c.from_residual.result c.from_residual.ensures.1 in
    let k = checked_err _ _ c.in_err-passed.ensures in
    rw (p.1, p.2) (bins_no a.bytes.now a.stats.now a.p a.block.now _ (k.0 ∙ c.bins_checks.ensures) k.1)

pub read_into-requires : goal.read_into-requires
read_into-requires c =
    let a = c.args in
    let s = bins_passed a.bytes.now a.stats.now a.p a.block.now (checked_ok _ c.in_ok-passed.ensures ∙ c.bins_checks.ensures) in
    ((omega arith, zeros_packed context_count), c.decision_table-table.ensures, s.accepted, s.room, s.statistics)

pub returns-in-Err : goal.returns-in-Err
returns-in-Err c =
    let a = c.args in
    let passed1 = checked_ok _ c.in_ok-passed.ensures ∙ c.bins_checks.ensures in
    bins_refused a.bytes.now a.stats.now a.p a.block.now passed1 front refl zeros c.read_into.result c.read_into.new.contexts c.read_into.new.stats c.read_into.new.block c.read_into.ensures
    _ c.in-Err.is

pub area_of-requires : goal.area_of-requires
area_of-requires c =
    let a = c.args in
    let passed1 = checked_ok _ c.in_ok-passed.ensures ∙ c.bins_checks.ensures in
    let s = (bins_passed a.bytes.now a.stats.now a.p a.block.now passed1).accepted in (s.least, s.most)

pub clear-requires : goal.clear-requires
clear-requires c =
    let a = c.args in
    let passed1 = checked_ok _ c.in_ok-passed.ensures ∙ c.bins_checks.ensures in
    let s = bins_passed a.bytes.now a.stats.now a.p a.block.now passed1 in
    subst (λ k. k ≤ length c.read_into.new.block) (sym c.area_of.ensures) (subst (λ k. area a.p ≤ k) (sym c.read_into.auto.block) s.room)

pub returns-then-at-bytes : goal.returns-then-at-bytes
returns-then-at-bytes c =
    let a = c.args in
    let passed1 = checked_ok _ c.in_ok-passed.ensures ∙ c.bins_checks.ensures in
    bins_over a.bytes.now a.stats.now a.p a.block.now passed1 front refl zeros c.read_into.result c.read_into.new.contexts c.read_into.new.stats c.read_into.new.block c.read_into.ensures _ _ c.in-Ok.is
    (omega arith, zeros_packed context_count) c.if-at-bytes.true c.area_of.result c.area_of.ensures c.clear.new.block c.clear.ensures

pub returns : goal.returns
returns c =
    let a = c.args in
    let passed1 = checked_ok _ c.in_ok-passed.ensures ∙ c.bins_checks.ensures in
    bins_got a.bytes.now a.stats.now a.p a.block.now passed1 front refl zeros c.read_into.result c.read_into.new.contexts c.read_into.new.stats c.read_into.new.block c.read_into.ensures _ _ c.in-Ok.is c.if-at-bytes.false

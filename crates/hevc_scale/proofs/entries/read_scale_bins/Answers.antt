use native.Mathlib.Omega.{arith}
use Prim.Native.Nat.{ℕ}
use mathlib.Core.Path.{refl, ◌∙◌}
use mathlib.Core.List.{List}
use lib.ListN.{replicate}
use Rattle.std.proofs.lemmas.Result.{err_from_is_err_and}
use Rattle.cabac.specs.NumberLaws.{checked_ok, checked_err}
use Rattle.bins.specs.Tags.{context_count}
use Rattle.bins.specs.declared.state.Interval.{Interval}
use Rattle.hevc_checks.specs.ChecksLaws.{zeros_packed}
use Rattle.hevc_scale.specs.EntriesLaws.{component_passed, bins_no, bins_refused, bins_got, bins_over}
use Rattle.hevc_scale.proofs.entries.read_scale_bins.Goals as goal

-- `read_scale_bins` meets its contract. Assumes nothing.
abbrev front : Interval
front = record { range = 256; offset = 0; position = record { 0 = 0 } }

abbrev zeros : List ℕ
zeros = replicate context_count 0

pub returns-in_err-passed : goal.returns-in_err-passed
returns-in_err-passed c =
    let a = c.args in
    let p = err_from_is_err_and c.from_residual.result c.from_residual.ensures.1 in
    let k = checked_err _ _ c.in_err-passed.ensures in
    rw (p.1, p.2) (bins_no a.bytes.now a.component _ (k.0 ∙ c.component_refusal.ensures) k.1)

pub read_scale-r-requires : goal.read_scale-r-requires
read_scale-r-requires c = (
  (omega arith, zeros_packed context_count),
  component_passed c.args.component
      (checked_ok _ c.in_ok-passed.ensures ∙ c.component_refusal.ensures),
  c.decision_table-table.ensures,
)

pub returns-in-Err : goal.returns-in-Err
returns-in-Err c =
    let a = c.args in
    let q = checked_ok _ c.in_ok-passed.ensures ∙ c.component_refusal.ensures in
    bins_refused a.bytes.now a.component q front refl zeros c.read_scale-r.result c.read_scale-r.new.contexts c.read_scale-r.ensures _ c.in-Err.is

pub returns-then-at-bytes : goal.returns-then-at-bytes
returns-then-at-bytes c =
    let a = c.args in
    let q = checked_ok _ c.in_ok-passed.ensures ∙ c.component_refusal.ensures in
    bins_over a.bytes.now a.component q front refl zeros c.read_scale-r.result c.read_scale-r.new.contexts c.read_scale-r.ensures _ c.in-Ok.is
    (omega arith, zeros_packed context_count) c.if-at-bytes.true

pub returns-else-at-bytes : goal.returns-else-at-bytes
returns-else-at-bytes c =
    let a = c.args in
    let q = checked_ok _ c.in_ok-passed.ensures ∙ c.component_refusal.ensures in
    bins_got a.bytes.now a.component q front refl zeros c.read_scale-r.result c.read_scale-r.new.contexts c.read_scale-r.ensures _ c.in-Ok.is c.if-at-bytes.false

use borrow.Author.Rules.{rules}
use Prim.Native.Nat.{◌≤◌, ◌+◌}
use mathlib.Core.Path.{◌≡◌, refl, sym, ap, ◌∙◌}
use Rattle.std.specs.Prelude.{ℕ, Bool, true, false, cond, List, ℤ}
use Rattle.std.proofs.lemmas.Result.{err_from_is_err_and}
use Rattle.cabac.specs.Numbers.{checked}
use Rattle.cabac.specs.NumberLaws.{checked_ok, checked_err, checked_none, checked_some}
use Rattle.hevc_residual.specs.declared.params.Params.{Params}
use Rattle.hevc_residual.specs.Numbers.{within_limits, parameter_refusal}
use native.Mathlib.Omega.{arith}
use lib.ListN.{length}
use Rattle.hevc_tray.proofs.ChecksCode.{records_on, records_bad, records_fine, records_end}
use Rattle.hevc_tray_reader.proofs.entries.check_records.Goals as goal

pub loop-record-init : goal.loop-record-init
loop-record-init c = (omega arith, refl)

pub slice_bounds-parameter_refusal-count : goal.slice_bounds-parameter_refusal-count
slice_bounds-parameter_refusal-count c = c.loop-record.invariant.0

pub slice_bounds-parameter_refusal-start : goal.slice_bounds-parameter_refusal-start
slice_bounds-parameter_refusal-start c = c.loop-record.invariant.0

pub slice_bounds-parameter_refusal-end : goal.slice_bounds-parameter_refusal-end
slice_bounds-parameter_refusal-end c = omega arith

-- what refuses a record is 4
four : (p : Params) (block : List ℤ) (n : ℕ) → n ≡ parameter_refusal p block → (n ≡ 0 → ⊥) → n ≡ 4
unfolding parameter_refusal
four p block n q z = go (within_limits p block) q
  where
    go : (b : Bool) → n ≡ cond b 0 4 → n ≡ 4
    go true k = absurd (z k)
    go false k = k

pub returns-in_err-passed : goal.returns-in_err-passed
returns-in_err-passed c =
    let a = c.args in
    let p = err_from_is_err_and c.from_residual.result c.from_residual.ensures.1 in
    let k = checked_err _ _ c.in_err-passed.ensures in
    let q = four _ _ _ (k.0 ∙ c.parameter_refusal.ensures) k.1 in
    let h = records_bad a.records.now a.levels.now c.loop-record.record-index c.loop-record.at c.loop-record.invariant.1 (omega arith) c.params_of-p.result
    c.params_of-p.ensures _ (k.0 ∙ c.parameter_refusal.ensures) k.1 in
    rw (p.1, p.2) (checked_some _ k.1 ∙ ap checked (q ∙ h))

pub area_of-at-requires : goal.area_of-at-requires
area_of-at-requires c =
    let g = records_fine c.args.records.now c.args.levels.now c.loop-record.record-index c.loop-record.at c.loop-record.invariant.1 (omega arith) c.params_of-p.result
    c.params_of-p.ensures c.parameter_refusal.result c.parameter_refusal.ensures (sym (checked_ok _ c.in_ok-passed.ensures)) c.loop-record.invariant.0 in
    (g.0.least, g.0.most)

pub overflow_add-at : goal.overflow_add-at
overflow_add-at c =
    let g = records_fine c.args.records.now c.args.levels.now c.loop-record.record-index c.loop-record.at c.loop-record.invariant.1 (omega arith) c.params_of-p.result c.params_of-p.ensures
    c.parameter_refusal.result c.parameter_refusal.ensures (sym (checked_ok _ c.in_ok-passed.ensures)) c.loop-record.invariant.0 in
    let h : c.loop-record.at + c.area_of-at.result ≤ length c.args.levels.now = omega (arith, g.1, c.area_of-at.ensures) in
    search rules

pub loop-record-preserved : goal.loop-record-preserved
loop-record-preserved c =
    let g = records_fine c.args.records.now c.args.levels.now c.loop-record.record-index c.loop-record.at c.loop-record.invariant.1 (omega arith) c.params_of-p.result c.params_of-p.ensures
    c.parameter_refusal.result c.parameter_refusal.ensures (sym (checked_ok _ c.in_ok-passed.ensures)) c.loop-record.invariant.0 in (
      omega (arith, g.1, c.area_of-at.ensures),
      records_on c.args.records.now c.args.levels.now c.loop-record.record-index c.loop-record.at c.loop-record.invariant.1 (omega arith)
          c.params_of-p.result c.params_of-p.ensures c.parameter_refusal.result c.parameter_refusal.ensures (sym (checked_ok _ c.in_ok-passed.ensures)) c.area_of-at.result
          c.area_of-at.ensures,
    )

pub returns : goal.returns
returns c = checked_none 0 refl ∙ ap checked (records_end c.args.records.now c.args.levels.now c.loop-record.record-index c.loop-record.at c.loop-record.invariant.1 (omega arith))

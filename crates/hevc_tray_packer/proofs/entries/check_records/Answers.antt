use Rattle.std.specs.Prelude.{ℕ, Bool, true, false, cond}
use Rattle.std.proofs.lemmas.Result.{err_from_is_err_and}
use Rattle.cabac.specs.Numbers.{checked}
use Rattle.cabac.specs.NumberLaws.{checked_ok, checked_err, checked_none, checked_some}
use Rattle.hevc_residual.specs.declared.params.Params.{Params}
use Rattle.hevc_residual.specs.Numbers.{within_limits, parameter_refusal}
use Rattle.hevc_packer.specs.Entries.{places}
use Rattle.hevc_tray_packer.specs.EntryCode.{records_on, records_bad, records_end}
use native.Mathlib.Omega.{arith}
use mathlib.Core.Path.{◌≡◌, refl, sym, ap, ◌∙◌}
use Rattle.hevc_tray_packer.proofs.entries.check_records.Goals as goal

-- what refuses a record is 4
four : (p : Params) (n : ℕ) → n ≡ parameter_refusal p places → (n ≡ 0 → ⊥) → n ≡ 4
unfolding parameter_refusal
four p n q z = go (within_limits p places) q
  where
    go : (b : Bool) → n ≡ cond b 0 4 → n ≡ 4
    go true k = absurd (z k)
    go false k = k

pub loop-record-init : goal.loop-record-init
loop-record-init c = refl

pub returns-in_err-passed : goal.returns-in_err-passed
returns-in_err-passed c =
    let p = err_from_is_err_and c.from_residual.result c.from_residual.ensures.1 in
    let k = checked_err _ _ c.in_err-passed.ensures in
    let h = records_bad c.args.records.now c.loop-record.record-index c.loop-record.invariant (omega arith) c.params_of.result c.params_of.ensures _ (k.0 ∙ c.parameter_refusal.ensures) k.1 in
    rw (p.1, p.2) (checked_some _ k.1 ∙ ap checked (four _ _ (k.0 ∙ c.parameter_refusal.ensures) k.1 ∙ h))

pub loop-record-preserved : goal.loop-record-preserved
loop-record-preserved c = records_on c.args.records.now c.loop-record.record-index c.loop-record.invariant (omega arith) c.params_of.result c.params_of.ensures c.parameter_refusal.result c.parameter_refusal.ensures (sym (checked_ok _ c.in_ok-passed.ensures))

pub returns : goal.returns
returns c = checked_none 0 refl ∙ ap checked (records_end c.args.records.now c.loop-record.record-index c.loop-record.invariant (omega arith))

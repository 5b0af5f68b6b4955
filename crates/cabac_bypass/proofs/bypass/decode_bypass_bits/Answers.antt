use mathlib.Core.Path.{ap, ◌∙◌}
use Rattle.bins.specs.Interval.{bypassed_on}
use Rattle.bins.specs.declared.state.Interval.{Interval}
use Rattle.cabac.specs.EntryLaws.{bypass_no_lem, bypass_ended, bypass_yes, counted, opened_goes, passed_fits}
use Rattle.std.proofs.lemmas.Result.{err_from_is_err_and}
use Rattle.cabac.specs.NumberLaws.{checked_ok, checked_err}
use Rattle.cabac_bypass.proofs.bypass.decode_bypass_bits.Goals as goal

pub returns-in_err-check_count : goal.returns-in_err-check_count
returns-in_err-check_count c =
    let a = c.args in
    let p = err_from_is_err_and c.from_residual.result c.from_residual.ensures.1 in
    let k = checked_err _ _ c.in_err-check_count.ensures in
    rw (p.1, p.2) (bypass_no_lem a.bytes.now a.e a.count _ k.0 k.1)

pub returns-then-e : goal.returns-then-e
returns-then-e c = let a = c.args in bypass_ended a.bytes.now a.e a.count (checked_ok _ c.in_ok-check_count.ensures) c.if-e.true

pub bypass_bits-t-requires : goal.bypass_bits-t-requires
bypass_bits-t-requires c = let a = c.args in let n = counted a.bytes.now a.e a.count (checked_ok _ c.in_ok-check_count.ensures) in (opened_goes a.bytes.now a.e _ c.«open».ensures n.0 c.if-e.false, n.1)

pub bins_of-requires : goal.bins_of-requires
bins_of-requires c = let a = c.args in (passed_fits a.bytes.now a.e (counted a.bytes.now a.e a.count (checked_ok _ c.in_ok-check_count.ensures)).0).0

pub returns : goal.returns
returns c = let a = c.args in bypass_yes a.bytes.now a.e a.count _ _ (checked_ok _ c.in_ok-check_count.ensures) c.if-e.false (c.bypass_bits-t.ensures ∙ ap (λ (x : Interval). bypassed_on a.bytes.now x a.count) c.«open».ensures) c.bins_of.ensures

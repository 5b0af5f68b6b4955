use native.Mathlib.Omega.{arith}
use Rattle.cabac.specs.EntryLaws.{raw_no, raw_yes, counted, passed_fits}
use Rattle.std.proofs.lemmas.Result.{err_from_is_err_and}
use Rattle.cabac.specs.NumberLaws.{checked_ok, checked_err}
use Rattle.cabac_bypass.proofs.bypass.read_bits.Goals as goal

pub returns-in_err-check_count : goal.returns-in_err-check_count
returns-in_err-check_count c =
    let a = c.args in
    let p = err_from_is_err_and c.from_residual.result c.from_residual.ensures.1 in
    let k = checked_err _ _ c.in_err-check_count.ensures in
    rw (p.1, p.2) (raw_no a.bytes.now a.e a.count _ k.0 k.1)

pub fetch-drawn-requires : goal.fetch-drawn-requires
fetch-drawn-requires c = let a = c.args in let n = counted a.bytes.now a.e a.count (checked_ok _ c.in_ok-check_count.ensures) in let p = passed_fits a.bytes.now a.e n.0 in (omega arith, p.0, n.1)

pub behind-state-requires : goal.behind-state-requires
behind-state-requires c = let a = c.args in let n = counted a.bytes.now a.e a.count (checked_ok _ c.in_ok-check_count.ensures) in (passed_fits a.bytes.now a.e n.0).0

pub returns : goal.returns
returns c = let a = c.args in raw_yes a.bytes.now a.e a.count _ _ (checked_ok _ c.in_ok-check_count.ensures) c.fetch-drawn.ensures c.behind-state.ensures

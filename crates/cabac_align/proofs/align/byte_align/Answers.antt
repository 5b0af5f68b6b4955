use native.Mathlib.Omega.{arith}
use Rattle.cabac.specs.EntryLaws.{byte_align_no, byte_align_yes, passed_fits}
use Rattle.std.proofs.lemmas.Result.{err_from_is_err_and}
use Rattle.cabac.specs.NumberLaws.{checked_ok, checked_err}
use Rattle.cabac_align.proofs.align.byte_align.Goals as goal

pub returns-in_err-check_state : goal.returns-in_err-check_state
returns-in_err-check_state c =
    let a = c.args in
    let p = err_from_is_err_and c.from_residual.result c.from_residual.ensures.1 in
    let k = checked_err _ _ c.in_err-check_state.ensures in
    rw (p.1, p.2) (byte_align_no a.bytes.now a.e _ k.0 k.1)

pub aligned-byte-requires : goal.aligned-byte-requires
aligned-byte-requires c = let a = c.args in let p = passed_fits a.bytes.now a.e (checked_ok _ c.in_ok-check_state.ensures) in omega arith

pub first_bit-place-requires : goal.first_bit-place-requires
first_bit-place-requires c = let a = c.args in let p = passed_fits a.bytes.now a.e (checked_ok _ c.in_ok-check_state.ensures) in omega (arith, c.aligned-byte.ensures)

pub returns : goal.returns
returns c = let a = c.args in byte_align_yes a.bytes.now a.e c.first_bit-place.result (checked_ok _ c.in_ok-check_state.ensures) (omega (arith, c.first_bit-place.ensures, c.aligned-byte.ensures))

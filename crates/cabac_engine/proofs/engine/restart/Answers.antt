use native.Mathlib.Omega.{arith}
use mathlib.Core.Path.{ap}
use mathlib.Core.Bool.{false}
use Prim.Native.Nat.{ℕ}
use Rattle.cabac.specs.EntryLaws.{restart_no, restart_yes, passed_fits}
use Rattle.std.proofs.lemmas.Result.{err_from_is_err_and}
use Rattle.cabac.specs.NumberLaws.{checked_ok, checked_err}
use Rattle.cabac_engine.proofs.engine.restart.Goals as goal

pub returns-in_err-check_state : goal.returns-in_err-check_state
returns-in_err-check_state c =
    let a = c.args in
    let p = err_from_is_err_and c.from_residual.result c.from_residual.ensures.1 in
    let k = checked_err _ _ c.in_err-check_state.ensures in
    rw (p.1, p.2) (restart_no a.bytes.now a.e _ k.0 k.1)

pub aligned-byte-requires : goal.aligned-byte-requires
aligned-byte-requires c = let a = c.args in let p = passed_fits a.bytes.now a.e (checked_ok _ c.in_ok-check_state.ensures) in omega arith

pub first_bit-place-requires : goal.first_bit-place-requires
first_bit-place-requires c = let a = c.args in let p = passed_fits a.bytes.now a.e (checked_ok _ c.in_ok-check_state.ensures) in omega (arith, c.aligned-byte.ensures)

pub started_at-requires : goal.started_at-requires
started_at-requires c = let a = c.args in let p = passed_fits a.bytes.now a.e (checked_ok _ c.in_ok-check_state.ensures) in (omega (arith, c.first_bit-place.ensures, c.aligned-byte.ensures), p.0)

pub returns : goal.returns
returns c = let a = c.args in restart_yes a.bytes.now a.e _ _ (checked_ok _ c.in_ok-check_state.ensures) (ap (λ (k : ℕ). record { range = 510; offset = 0; position = record { 0 = k }; ended = false; past = a.e.past }) (omega (arith, c.first_bit-place.ensures, c.aligned-byte.ensures))) c.started_at.ensures

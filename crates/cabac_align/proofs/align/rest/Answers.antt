use native.Mathlib.Omega.{arith}
use mathlib.Core.Path.{sym, ◌∙◌}
use Rattle.cabac.specs.NumberLaws.{checked_ok, checked_err}
use Rattle.cabac.specs.EntryLaws.{rest_none, rest_part, rest_no, rest_yes, passed_fits}
use Rattle.bins.specs.Engine.{aligned_byte}
use Rattle.cabac_align.proofs.align.rest.Goals as goal

pub returns-in_default : goal.returns-in_default
returns-in_default c =
    let a = c.args in
    let k = checked_err _ _ (sym c.in_default.is ∙ c.check_state.ensures) in
    rest_none a.bytes.now ∙ rest_no a.bytes.now a.e _ k.0 k.1

pub aligned-byte-requires : goal.aligned-byte-requires
aligned-byte-requires c = let a = c.args in let p = passed_fits a.bytes.now a.e (checked_ok _ (sym c.in-Ok.is ∙ c.check_state.ensures)) in omega arith

pub slice_bounds-result-count-2 : goal.slice_bounds-result-count-2
slice_bounds-result-count-2 c = let a = c.args in let p = passed_fits a.bytes.now a.e (checked_ok _ (sym c.in-Ok.is ∙ c.check_state.ensures)) in omega (arith, c.aligned-byte.ensures)

pub slice_bounds-result-start-2 : goal.slice_bounds-result-start-2
slice_bounds-result-start-2 c = let a = c.args in let p = passed_fits a.bytes.now a.e (checked_ok _ (sym c.in-Ok.is ∙ c.check_state.ensures)) in omega (arith, c.aligned-byte.ensures)

pub returns : goal.returns
returns c = let a = c.args in let p = passed_fits a.bytes.now a.e (checked_ok _ (sym c.in-Ok.is ∙ c.check_state.ensures)) in rest_part a.bytes.now _ (aligned_byte a.e) c.aligned-byte.ensures (omega arith) ∙ rest_yes a.bytes.now a.e (checked_ok _ (sym c.in-Ok.is ∙ c.check_state.ensures))

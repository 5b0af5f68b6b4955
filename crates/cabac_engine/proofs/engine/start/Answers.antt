use native.Mathlib.Omega.{arith}
use mathlib.Core.Path.{ap, ◌∙◌}
use Rattle.std.proofs.lemmas.Result.{err_from_is_err_and}
use Rattle.cabac.specs.Numbers.{checked}
use Rattle.cabac.specs.NumberLaws.{checked_ok, checked_err, payload_passed}
use Rattle.cabac.specs.EntryLaws.{start_no, start_yes}
use Rattle.cabac_engine.proofs.engine.start.Goals as goal

pub returns-in_err-passed : goal.returns-in_err-passed
returns-in_err-passed c =
    let p = err_from_is_err_and c.from_residual.result c.from_residual.ensures.1 in
    let k = checked_err _ _ (c.in_err-passed.ensures ∙ ap checked c.payload_refusal.ensures) in
    rw (p.1, p.2) (start_no c.args.bytes.now _ k.0 k.1)

pub started_at-requires : goal.started_at-requires
started_at-requires c = (omega arith, payload_passed c.args.bytes.now (checked_ok _ c.in_ok-passed.ensures ∙ c.payload_refusal.ensures))

pub returns : goal.returns
returns c = start_yes c.args.bytes.now _ (checked_ok _ c.in_ok-passed.ensures ∙ c.payload_refusal.ensures) c.started_at.ensures

use mathlib.Core.Path.{refl, ap, ◌∙◌}
use Rattle.std.proofs.lemmas.Result.{err_from_is_err_and}
use Rattle.frame.specs.VerdictLaws.{tail_is, verdict_checks, verdict_ready, verdict_refused, levels_checks, levels_ready, levels_refused}
use Rattle.cabac.specs.Entries.{start}
use Rattle.cabac.specs.NumberLaws.{checked_ok, checked_err}
use Rattle.frame_judge.proofs.judge.read_frame.Goals as goal

pub returns-in_err-passed : goal.returns-in_err-passed
returns-in_err-passed c =
    let a = c.args in
    let p = err_from_is_err_and c.from_residual.result c.from_residual.ensures.1 in
    let k = checked_err _ _ c.in_err-passed.ensures in
    rw (p.1, p.2) (verdict_checks a.bytes.now _ (k.0 ∙ c.checks.ensures) k.1, levels_checks a.bytes.now _ (k.0 ∙ c.checks.ensures) k.1)

pub returns-in_err-e : goal.returns-in_err-e
returns-in_err-e c =
    let a = c.args in
    let p = err_from_is_err_and c.from_residual-in_err-e.result c.from_residual-in_err-e.ensures.1 in
    let k = checked_ok _ c.in_ok-passed.ensures ∙ c.checks.ensures in
    let q = c.start.ensures ∙ ap start (tail_is a.bytes.now) in
    rw (p.1, p.2) (verdict_refused a.bytes.now _ k _ _ refl q c.in_err-e.was, levels_refused a.bytes.now _ k _ _ refl q c.in_err-e.was)

pub returns : goal.returns
returns c =
    let a = c.args in
    let k = checked_ok _ c.in_ok-passed.ensures ∙ c.checks.ensures in
    let q = c.start.ensures ∙ ap start (tail_is a.bytes.now) in (
      verdict_ready a.bytes.now _ k _ _ _ refl q c.in_ok-e.was c.read_from.ensures.0,
      levels_ready a.bytes.now _ k _ _ _ refl q c.in_ok-e.was c.read_from.ensures.1,
    )

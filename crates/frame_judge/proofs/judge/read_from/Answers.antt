use native.Mathlib.Omega.{arith}
use Rattle.std.proofs.lemmas.Result.{err_from_is_err_and}
use Rattle.frame.specs.VerdictLaws.{tail_is, read_ok, read_no}
use Rattle.frame_judge.proofs.judge.read_from.Goals as goal

pub returns-in_err-b : goal.returns-in_err-b
returns-in_err-b c =
    let a = c.args in
    let i = c.init_contexts.ensures in
    let p = err_from_is_err_and c.from_residual.result c.from_residual.ensures.1 in
    rw (p.1, p.2)
    (read_no a.bytes.now _ _ _ _ _ _ _ _ _ a.e (omega arith) i.0 i.1 i.2 c.params-p.ensures _ (tail_is a.bytes.now) _ c.requires.1 _ _
    c.residual_coding.ensures c.in_err-b.was)

pub returns : goal.returns
returns c =
    let a = c.args in
    let i = c.init_contexts.ensures in
    read_ok a.bytes.now _ _ _ _ _ _ _ _ _ a.e (omega arith) i.0 i.1 i.2 c.params-p.ensures _ (tail_is a.bytes.now) _ c.requires.1 _ _
    c.residual_coding.ensures c.in_ok-b.was

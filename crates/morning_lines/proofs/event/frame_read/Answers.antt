use Rattle.std.proofs.lemmas.Result.{err_from_is_err_and}
use Rattle.morning_add.specs.CodeLaws.{frame_ok, frame_no}
use Rattle.morning_lines.proofs.event.frame_read.Goals as goal

pub returns : goal.returns
returns c =
    let a = c.args in
    let r = c.read_frame.ensures in
    frame_ok a.bytes.now _ _ r.0 _ _ _ c.size_of-log2.ensures r.1 c.in_ok-v.was

pub returns-in_err-v : goal.returns-in_err-v
returns-in_err-v c =
    let a = c.args in
    let p = err_from_is_err_and c.from_residual.result c.from_residual.ensures.1 in
    rw (p.1, p.2) (frame_no a.bytes.now _ _ c.read_frame.ensures.0 _ c.in_err-v.was)

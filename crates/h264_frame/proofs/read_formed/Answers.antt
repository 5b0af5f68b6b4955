use mathlib.Core.Path.{ap, ◌∙◌}
use Rattle.cabac.specs.Entries.{start}
use Rattle.h264_frame.specs.FrameLaws.{tail_is, frame_ready, frame_refused}
use Rattle.h264_frame.proofs.read_formed.Goals as goal

pub returns-in-Ok : goal.returns-in-Ok
returns-in-Ok c =
    let a = c.args in
    frame_ready a.bytes.now c.requires.0 _ (c.start-s.ensures ∙ ap start (tail_is a.bytes.now)) _ _ _ c.in-Ok.is c.read_from.ensures.0 c.read_from.ensures.1

pub returns-in-Err : goal.returns-in-Err
returns-in-Err c =
    let a = c.args in
    let r = frame_refused a.bytes.now c.requires.0 _ (c.start-s.ensures ∙ ap start (tail_is a.bytes.now)) _ c.in-Err.is in
    (r.0, c.requires.2 ∙ r.1)

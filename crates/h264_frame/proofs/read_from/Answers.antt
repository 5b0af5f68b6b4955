use Rattle.h264_frame.specs.FrameLaws.{tail_is, read_is}
use Rattle.h264_frame.proofs.read_from.Goals as goal

pub returns : goal.returns
returns c =
    let a = c.args in
    let i = c.initial.ensures in
    read_is a.bytes.now _ _ _ _ _ _ a.e c.requires.0 c.put_pairs.ensures i.0 i.1 _ (tail_is a.bytes.now) _ c.requires.1 _ c.block.ensures

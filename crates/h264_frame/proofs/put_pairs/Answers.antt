use native.Mathlib.Omega.{arith}
use Rattle.h264_frame.specs.FrameLaws.{paired_all}
use Rattle.h264_frame.proofs.put_pairs.Goals as goal

pub returns : goal.returns
returns c = paired_all _ _ _ c.loop-i.invariant (omega arith) (omega arith)

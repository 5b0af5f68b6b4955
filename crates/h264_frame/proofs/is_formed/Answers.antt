use native.Mathlib.Omega.{arith}
use Rattle.h264_frame.specs.FrameLaws.{formed_short, formed_long}
use Rattle.h264_frame.proofs.is_formed.Goals as goal

-- `is_formed` meets its contract. Assumes nothing.
pub returns-then-bytes-lt83 : goal.returns-then-bytes-lt83
returns-then-bytes-lt83 c = formed_short c.args.bytes.now c.if-bytes-lt83.true

pub returns : goal.returns
returns c = formed_long c.args.bytes.now c.length_said.result (omega arith) c.length_said.ensures.0

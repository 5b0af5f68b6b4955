use Rattle.h264_frame.specs.FrameLaws.{Paired}
use Rattle.h264_frame.proofs.put_pairs.Given as goal

-- `put_pairs` meets its contract. Assumes nothing.
abbrev pub invariant-loop-i : goal.invariant-loop-i
invariant-loop-i l = Paired l.bytes l.i l.out

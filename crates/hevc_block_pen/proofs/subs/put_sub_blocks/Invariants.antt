use Rattle.pen.specs.Sheet.{sheet}
use Rattle.hevc_block_pen.specs.SubsPuts.{Walking}
use Rattle.hevc_block_pen.proofs.subs.put_sub_blocks.Given as goal

-- `put_sub_blocks` meets its contract. Assumes nothing.
abbrev pub invariant-loop-i : goal.invariant-loop-i
invariant-loop-i l = Walking l.fn.p l.fn.h l.block l.initial.coded l.initial.stats (sheet l.initial.room l.initial.y) l.i l.c l.coded l.stats (sheet l.room l.y)

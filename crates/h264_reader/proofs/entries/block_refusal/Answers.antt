use Rattle.h264_block.specs.EntryLaws.{block_short, block_passes}
use Rattle.h264_reader.proofs.entries.block_refusal.Goals as goal

pub returns-then-block-lt16 : goal.returns-then-block-lt16
returns-then-block-lt16 c = block_short c.args.block.now c.if-block-lt16.true

pub returns : goal.returns
returns c = block_passes c.args.block.now c.if-block-lt16.false

use Rattle.bins.specs.StepLaws.{passed_on}
use Rattle.h264_reader.specs.BlockCode.{block_refused, block_reads, block_levels}
use Rattle.h264_reader.proofs.block.read_block.Goals as goal

pub returns-in_err-next : goal.returns-in_err-next
returns-in_err-next c =
    let a = c.args in
    rw (passed_on c.from_residual.result _ c.from_residual.ensures.1)
    (block_refused a.list a.bytes.now a.x a.contexts.now c.places.result c.places.new.contexts c.places.new.marks c.places.ensures _ c.in_err-next.was)

pub levels-requires : goal.levels-requires
levels-requires c =
    let a = c.args in (
      block_reads a.list a.bytes.now a.x a.contexts.now c.places.result c.places.new.contexts c.places.new.marks c.places.ensures _ _ c.in_ok-next.was
          c.requires.0,
      c.requires.2,
    )

pub returns : goal.returns
returns c =
    let a = c.args in
    block_levels a.list a.bytes.now a.x a.contexts.now c.places.result c.places.new.contexts c.places.new.marks c.places.ensures _ _
    c.in_ok-next.was _ _ c.requires.1 c.levels.result c.levels.new.contexts c.levels.ensures

use Rattle.h264_reader.specs.BlockCode.{block_long, into_refused, into_got}
use mathlib.Core.Path.{sym}
use Rattle.h264_reader.proofs.block.read_into.Goals as goal

pub returns-in-Err : goal.returns-in-Err
returns-in-Err c =
    let a = c.args in
    into_refused a.list a.bytes.now a.x a.contexts.now c.read_block.new.contexts c.read_block.new.block c.read_block.result c.read_block.ensures _
    c.in-Err.is a.block.now _ c.clear.ensures

pub copy-requires : goal.copy-requires
copy-requires c =
    let a = c.args in (
      c.requires.1,
      block_long a.list a.bytes.now a.x a.contexts.now c.read_block.new.contexts c.read_block.new.block c.read_block.result c.read_block.ensures _ _
          c.in-Ok.is,
    )

pub slice_bounds-greatest-end : goal.slice_bounds-greatest-end
slice_bounds-greatest-end c =
    let a = c.args in
    sym (block_long a.list a.bytes.now a.x a.contexts.now c.read_block.new.contexts c.read_block.new.block c.read_block.result c.read_block.ensures _ _ c.in-Ok.is)

pub returns-in-Ok : goal.returns-in-Ok
returns-in-Ok c =
    let a = c.args in
    into_got a.list a.bytes.now a.x a.contexts.now c.read_block.new.contexts c.read_block.new.block c.read_block.result c.read_block.ensures _ _ c.in-Ok.is a.block.now
    _ c.copy.ensures c.greatest.result c.greatest.ensures

use mathlib.Core.Path.{sym}
use lib.Seq.{length-take-le}
use Rattle.std.specs.Prelude.{Ok, Err}
use Rattle.bins.specs.StepLaws.{passed_on}
use Rattle.h264_writer.specs.Demand3.{promised}
use Rattle.h264_writer.specs.EntriesPuts.{refused_first, refused_second, writable, no_room, all_written}
use Rattle.h264_writer.proofs.entries.write_bins.Goals as goal

pub returns-then-block-lt16 : goal.returns-then-block-lt16
returns-then-block-lt16 c =
    let a = c.args in
    promised a.block.now a.room.now (Err 4) _ (refused_first a.block.now a.room.now c.if-block-lt16.true)

pub slice_bounds-levels-end : goal.slice_bounds-levels-end
slice_bounds-levels-end c = sym (length-take-le 16 c.args.block.now c.if-block-lt16.false)

pub returns-in_err-writable : goal.returns-in_err-writable
returns-in_err-writable c =
    let a = c.args in
    rw (passed_on c.from_residual.result _ c.from_residual.ensures.1)
    (promised a.block.now a.room.now (Err _) _ (refused_second a.block.now a.room.now c.if-block-lt16.false _ c.in_err-writable.ensures.0 c.in_err-writable.ensures.1))

pub put_block-counted-requires : goal.put_block-counted-requires
put_block-counted-requires c = let a = c.args in writable a.block.now a.room.now c.if-block-lt16.false c.in_ok-writable.ensures

pub returns-then-counted : goal.returns-then-counted
returns-then-counted c =
    let l = c.args.block.now in
    let room = c.args.room.now in
    promised l room (Err 12) _ (no_room l room c.if-block-lt16.false c.in_ok-writable.ensures _ c.put_block-counted.result c.put_block-counted.ensures c.if-counted.true)

pub put_block-written-requires : goal.put_block-written-requires
put_block-written-requires c = let a = c.args in writable a.block.now a.room.now c.if-block-lt16.false c.in_ok-writable.ensures

pub returns : goal.returns
returns c =
    let l = c.args.block.now in
    let room = c.args.room.now in
    promised l room (Ok c.put_block-written.result.at) _ (all_written l room c.if-block-lt16.false c.in_ok-writable.ensures _ c.put_block-counted.result c.put_block-counted.ensures c.if-counted.false _ c.put_block-written.result c.put_block-written.ensures)

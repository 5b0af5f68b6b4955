use mathlib.Core.Path.{refl, sym}
use Rattle.hevc_rules.specs.BlockLaws.{coded_none, coded_room, coded_long}
use Rattle.hevc_block_pen.specs.BlockPuts.{wanted_of, codable, all_in_range, block_put}
use Rattle.hevc_writer.proofs.entries.put_block.Goals as goal

pub put_head-y-requires : goal.put_head-y-requires
put_head-y-requires c =
    let a = c.args in
    let l = c.last_wanted-last.ensures.1 in
    (c.requires.0.least, c.requires.0.most, l.column, l.row, codable a.p a.skip a.rdpcm a.block.now c.requires.3)

pub slice_bounds-put_sub_blocks-end : goal.slice_bounds-put_sub_blocks-end
slice_bounds-put_sub_blocks-end c = coded_room c.args.p c.grid-n.result c.grid-n.ensures

pub put_sub_blocks-requires : goal.put_sub_blocks-requires
put_sub_blocks-requires c =
    let a = c.args in
    let l = c.last_wanted-last.ensures.1 in
    let k = c.requires.0 in (
      c.inner_order-order.ensures,
      c.outer_order-outer.ensures,
      record { least = k.least; most = k.most; scan = k.scan; depth = k.depth; column = l.column; row = l.row },
      coded_long a.p c.grid-n.result c.grid-n.ensures k,
      c.requires.1,
      all_in_range a.p a.skip a.rdpcm a.block.now c.requires.3,
      c.requires.2,
    )

pub returns : goal.returns
returns c =
    let a = c.args in
    let w = wanted_of a.skip a.rdpcm a.block.now in
    block_put a.p a.skip a.rdpcm a.block.now a.stats.now _ _ _ _ _ _ (coded_none a.p c.grid-n.result c.grid-n.ensures)
    (c.put_head-y.ensures w refl refl (sym (c.last_wanted-last.ensures.0 w refl))) c.put_sub_blocks.ensures.1

use native.Mathlib.Omega.{arith}
use mathlib.Core.Path.{refl}
use Rattle.hevc_block_pen.specs.BlockPuts.{wanted_of}
use Rattle.hevc_writer.specs.EntriesPuts.{surely_goes, counted_stands, counted_goes}
use Rattle.hevc_writer.proofs.entries.has_room.Goals as goal

pub longest_list-requires : goal.longest_list-requires
longest_list-requires c = let k = c.requires.0 in (k.least, k.most)

pub returns-then-longest_list-room : goal.returns-then-longest_list-room
returns-then-longest_list-room c =
    let a = c.args in (
      refl,
      surely_goes a.p a.stats.now (wanted_of a.skip a.rdpcm a.block.now) a.room.now c.requires.0 c.requires.1 c.requires.2 c.requires.3
          c.longest_list.result c.longest_list.ensures (omega (arith, c.if-longest_list-room.true)),
    )

pub put_block-counted-requires : goal.put_block-counted-requires
put_block-counted-requires c = c.requires

pub returns : goal.returns
returns c =
    let a = c.args in
    let w = wanted_of a.skip a.rdpcm a.block.now in (
      counted_stands a.p a.stats.now w a.room.now c.requires.0 c.requires.1 c.requires.2 c.requires.3 _ _ c.put_block-counted.result c.put_block-counted.ensures,
      counted_goes a.p a.stats.now w a.room.now c.requires.0 c.requires.1 c.requires.2 c.requires.3 _ _ c.put_block-counted.result c.put_block-counted.ensures,
    )

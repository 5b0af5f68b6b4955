use Rattle.h264_pen.specs.LevelPuts.{block_put}
use Rattle.h264_pen.proofs.levels.put_block.Goals as goal

pub put_places-y-requires : goal.put_places-y-requires
put_places-y-requires c = (c.requires, c.last_place-last.ensures)

pub returns : goal.returns
returns c = block_put c.args.levels.now _ _ _ c.put_places-y.ensures c.put_levels.ensures

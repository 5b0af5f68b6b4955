-- What the entry point that packs an H.264 block's list answers and leaves in the room, for everything that it can be handed (request (i), of (xiii)'s lists).
-- 3, then 13 where the bin reader refuses the list by 8 or 13, then 12 exactly if the payload is longer than the room; after a refusal the room is as it was.
-- 4 cannot arise: the count of contexts is the type's, and the block that the list is read into is the function's own.
use Rattle.std.specs.Prelude.{ℕ, List}
use Rattle.trees.specs.Lent.{contexts_refusal}
use Rattle.packing.specs.Entries.{BinsPacked, pack_tree}
use Rattle.h264_block.specs.Block.{block}

unfoldable pub pack_bins : List ℕ → List ℕ → List ℕ → BinsPacked
pack_bins contexts bins room = pack_tree (contexts_refusal contexts) block contexts bins room

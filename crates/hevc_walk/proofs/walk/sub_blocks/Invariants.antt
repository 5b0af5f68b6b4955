use Rattle.hevc_walk.specs.WalkLaws.{Walking}
use Rattle.hevc_stored.specs.StoredAgree.{Keeps}
use Rattle.hevc_walk.proofs.walk.sub_blocks.Given as goal

-- `sub_blocks` meets its contract. Assumes nothing.
abbrev pub invariant-loop-i : goal.invariant-loop-i
invariant-loop-i l = Walking l.p l.h l.list l.bytes l.initial.so_far.next l.initial.contexts l.initial.coded l.initial.block l.initial.stats l.i l.so_far.carry l.so_far.next l.contexts l.coded l.block l.stats × Keeps l.p l.so_far.stored l.block

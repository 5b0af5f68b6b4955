use mathlib.Core.Bool.{false}
use lib.ListN.{take, replicate}
use Rattle.bins.specs.StepLaws.{passed_on}
use Rattle.hevc_rules.specs.BlockLaws.{coded_none, coded_room, coded_long}
use Rattle.hevc_block.specs.BlockLaws.{head_refused, head_reads, head_last, subs_refused, subs_got}
use Rattle.hevc_subblock.specs.CarriedKeeps.{keeps_carried}
use Rattle.hevc_sub_blocks.specs.SmallLaws.{zeros_long}
use Rattle.hevc_block.proofs.block.read_block.Goals as goal

pub returns-in_err-head : goal.returns-in_err-head
returns-in_err-head c =
    let a = c.args in
    rw (passed_on c.from_residual.result _ c.from_residual.ensures.1) (
      zeros_long a.p a.block.now c.requires.3,
      c.requires.4,
      head_refused a.p c.requires.2 a.list a.bytes.now a.x a.contexts.now a.stats.now c.read_head.result c.read_head.new.contexts c.read_head.ensures
          _ c.in_err-head.was,
    )

pub slice_bounds-sub_blocks-end : goal.slice_bounds-sub_blocks-end
slice_bounds-sub_blocks-end c = coded_room c.args.p c.grid-n.result c.grid-n.ensures

pub sub_blocks-requires : goal.sub_blocks-requires
sub_blocks-requires c =
    let a = c.args in (
      head_reads a.p c.requires.2 a.list a.bytes.now a.x a.contexts.now a.stats.now c.read_head.result c.read_head.new.contexts c.read_head.ensures c.in_ok-head.field-0.head c.in_ok-head.field-0.next c.in_ok-head.was c.requires.0,
      c.requires.1,
      head_last a.p c.requires.2 a.list a.bytes.now a.x a.contexts.now a.stats.now c.read_head.result c.read_head.new.contexts c.read_head.ensures c.in_ok-head.field-0.head c.in_ok-head.field-0.next c.in_ok-head.was,
      coded_long a.p c.grid-n.result c.grid-n.ensures c.requires.2,
      c.requires.3,
      c.requires.4,
    )

pub returns-in_err-carried : goal.returns-in_err-carried
returns-in_err-carried c =
    let a = c.args in
    let coded2 = take c.grid-n.result (replicate 64 false) in
    rw (passed_on c.from_residual-in_err-carried.result _ c.from_residual-in_err-carried.ensures.1) (
      c.sub_blocks.ensures.0,
      c.sub_blocks.ensures.1,
      subs_refused a.p c.requires.2 a.list a.bytes.now a.x a.contexts.now a.stats.now c.read_head.result c.read_head.new.contexts c.read_head.ensures c.in_ok-head.field-0.head c.in_ok-head.field-0.next c.in_ok-head.was
          coded2 a.block.now (coded_none a.p c.grid-n.result c.grid-n.ensures) c.requires.3 c.sub_blocks.result c.sub_blocks.new.contexts c.sub_blocks.new.coded c.sub_blocks.new.block c.sub_blocks.new.stats c.sub_blocks.ensures.2
          _ c.in_err-carried.was,
    )

pub told_of-told-requires : goal.told_of-told-requires
told_of-told-requires c = (c.requires.2, c.sub_blocks.ensures.0, keeps_carried c.args.p c.sub_blocks.result _ c.sub_blocks.new.block c.sub_blocks.ensures.3 c.in_ok-carried.was)

pub returns : goal.returns
returns c =
    let a = c.args in
    let coded2 = take c.grid-n.result (replicate 64 false) in (
      c.sub_blocks.ensures.0,
      c.sub_blocks.ensures.1,
      subs_got a.p c.requires.2 a.list a.bytes.now a.x a.contexts.now a.stats.now c.read_head.result c.read_head.new.contexts c.read_head.ensures c.in_ok-head.field-0.head c.in_ok-head.field-0.next c.in_ok-head.was
          coded2 a.block.now (coded_none a.p c.grid-n.result c.grid-n.ensures) c.requires.3 c.sub_blocks.result c.sub_blocks.new.contexts c.sub_blocks.new.coded c.sub_blocks.new.block c.sub_blocks.new.stats c.sub_blocks.ensures.2
          c.requires.4 c.in_ok-carried.carried.carry c.in_ok-carried.carried.stored c.in_ok-carried.carried.next c.in_ok-carried.was c.found_of.result c.told_of-told.result.row c.told_of-told.result.greatest c.told_of-told.ensures.0 c.told_of-told.ensures.1 c.found_of.ensures,
    )

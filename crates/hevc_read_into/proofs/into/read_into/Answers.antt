use mathlib.Core.Path.{sym, ◌∙◌}
use mathlib.Core.List.{◌++◌}
use lib.ListN.{drop}
use Rattle.hevc_read_into.specs.IntoLaws.{front_zeros, front_room, read_with, cleared_again, into_got, into_refused}
use Rattle.hevc_read_into.proofs.into.read_into.Goals as goal

pub slice_bounds-read_block-end-2 : goal.slice_bounds-read_block-end-2
slice_bounds-read_block-end-2 c =
    let a = c.args in
    front_room a.p c.area_of-n.result c.area_of-n.ensures a.block.now c.clear.new.block c.clear.ensures

pub read_block-r-requires : goal.read_block-r-requires
read_block-r-requires c =
    let a = c.args in (
      c.requires.0,
      c.requires.1,
      c.requires.2,
      front_zeros a.p c.area_of-n.result c.area_of-n.ensures a.block.now c.clear.new.block c.clear.ensures,
      c.requires.4,
    )

pub returns-then-is_err : goal.returns-then-is_err
returns-then-is_err c =
    let a = c.args in
    let levels2 = c.read_block-r.new.block in
    let w = read_with a.p c.area_of-n.result c.area_of-n.ensures a.block.now c.clear.new.block c.clear.ensures levels2 in
    into_refused a.p a.list a.bytes.now a.x a.contexts.now a.stats.now a.block.now c.read_block-r.new.contexts levels2 c.read_block-r.new.stats c.read_block-r.ensures.0
    c.read_block-r.result c.read_block-r.ensures.2 (sym c.is_err.ensures.value ∙ c.if-is_err.true) c.clear-then-is_err.new.block
    (cleared_again a.p c.area_of-n.result c.area_of-n.ensures a.block.now levels2 (levels2 ++ drop c.area_of-n.result c.clear.new.block) c.clear-then-is_err.new.block c.read_block-r.ensures.0 w c.clear-then-is_err.ensures)

pub returns-else-is_err : goal.returns-else-is_err
returns-else-is_err c =
    let a = c.args in
    let levels2 = c.read_block-r.new.block in
    into_got a.p a.list a.bytes.now a.x a.contexts.now a.stats.now a.block.now c.read_block-r.new.contexts levels2 c.read_block-r.new.stats c.read_block-r.ensures.0
    c.read_block-r.result c.read_block-r.ensures.2 (sym c.is_err.ensures.value ∙ c.if-is_err.false) (levels2 ++ drop c.area_of-n.result c.clear.new.block)
    (read_with a.p c.area_of-n.result c.area_of-n.ensures a.block.now c.clear.new.block c.clear.ensures levels2)

use Rattle.figures.specs.CodeLaws.{block_other, block_small, block_large, block_short, block_full, block_fine}
use Rattle.figures_add.proofs.add.block_refusal.Goals as goal

pub returns-then-t-size : goal.returns-then-t-size
returns-then-t-size c = block_other c.args.t c.args.size c.args.levels.now c.if-t-size.true

pub returns-then-t-lt2 : goal.returns-then-t-lt2
returns-then-t-lt2 c = block_small c.args.t c.args.size c.args.levels.now c.if-t-size.false c.if-t-lt2.true

pub returns-then-t-gt5 : goal.returns-then-t-gt5
returns-then-t-gt5 c = block_large c.args.t c.args.size c.args.levels.now c.if-t-size.false c.if-t-lt2.false c.if-t-gt5.true

pub returns-then-levels-area_of : goal.returns-then-levels-area_of
returns-then-levels-area_of c =
    block_short c.args.t c.args.size c.args.levels.now c.if-t-size.false c.if-t-lt2.false
    c.if-t-gt5.false c.area_of.result c.area_of.ensures c.if-levels-area_of.true

pub returns-then-t-ge4096 : goal.returns-then-t-ge4096
returns-then-t-ge4096 c =
    block_full c.args.t c.args.size c.args.levels.now c.if-t-size.false c.if-t-lt2.false c.if-t-gt5.false
    c.area_of.result c.area_of.ensures c.if-levels-area_of.false c.if-t-ge4096.true

pub returns : goal.returns
returns c =
    block_fine c.args.t c.args.size c.args.levels.now c.if-t-size.false c.if-t-lt2.false c.if-t-gt5.false
    c.area_of.result c.area_of.ensures c.if-levels-area_of.false c.if-t-ge4096.false

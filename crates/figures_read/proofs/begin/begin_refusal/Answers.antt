use Rattle.figures.specs.OutLaws.{begin_small, begin_large, begin_fine}
use Rattle.figures_read.proofs.begin.begin_refusal.Goals as goal

-- `begin_refusal` meets its contract. Assumes nothing.
pub returns-then-log2-lt2 : goal.returns-then-log2-lt2
returns-then-log2-lt2 c = begin_small c.args.log2 c.if-log2-lt2.true

pub returns-then-log2-gt5 : goal.returns-then-log2-gt5
returns-then-log2-gt5 c = begin_large c.args.log2 c.if-log2-lt2.false c.if-log2-gt5.true

pub returns : goal.returns
returns c = begin_fine c.args.log2 c.if-log2-lt2.false c.if-log2-gt5.false

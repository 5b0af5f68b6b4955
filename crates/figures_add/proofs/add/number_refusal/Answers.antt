use Rattle.figures.specs.CodeLaws.{number_small, number_large, number_fine}
use Rattle.figures_add.proofs.add.number_refusal.Goals as goal

pub returns-then-number-lt1 : goal.returns-then-number-lt1
returns-then-number-lt1 c = number_small c.args.number c.if-number-lt1.true

pub returns-then-number-gt24 : goal.returns-then-number-gt24
returns-then-number-gt24 c = number_large c.args.number c.if-number-lt1.false c.if-number-gt24.true

pub returns : goal.returns
returns c = number_fine c.args.number c.if-number-lt1.false c.if-number-gt24.false

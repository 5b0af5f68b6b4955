use mathlib.Core.Path.{sym, ◌∙◌}
use Rattle.figures.specs.OutLaws.{begin_refused, begin_done}
use Rattle.figures_read.proofs.begin.begin.Goals as goal

pub returns-then-number-ne0 : goal.returns-then-number-ne0
returns-then-number-ne0 c =
    let a = c.args in
    begin_refused a.totals a.blocks.now a.sums.now a.greatests.now a.tallies.now a.log2 c.begin_refusal-number.result c.begin_refusal-number.ensures c.if-number-ne0.true

pub returns : goal.returns
returns c =
    let a = c.args in
    begin_done a.totals a.blocks.now a.sums.now a.greatests.now a.tallies.now a.log2 (sym c.if-number-ne0.false ∙ c.begin_refusal-number.ensures)

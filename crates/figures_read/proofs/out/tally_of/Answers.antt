use mathlib.Core.Path.{◌≡◌, sym, ◌∙◌}
use native.Mathlib.Omega.{arith}
use Rattle.figures.specs.Entries.{number_refusal}
use Rattle.figures.specs.Agree.{held}
use Rattle.figures.specs.CodeLaws.{number_in}
use Rattle.figures.specs.OutLaws.{tally_no, tally_yes}
use Rattle.figures_read.proofs.out.tally_of.Goals as goal

pub overflow_sub-at : goal.overflow_sub-at
overflow_sub-at c =
    let passed = sym c.if-n-ne0.false ∙ c.number_refusal-n.ensures in
    let h = number_in c.args.number passed in omega arith

pub bounds-tallies-at : goal.bounds-tallies-at
bounds-tallies-at c =
    let passed = sym c.if-n-ne0.false ∙ c.number_refusal-n.ensures in
    let h = number_in c.args.number passed in omega arith

pub returns : goal.returns
returns c =
    let a = c.args in
    let passed = sym c.if-n-ne0.false ∙ c.number_refusal-n.ensures in
    λ b s g. tally_yes (held a.totals b s g a.tallies.now) a.number passed

pub returns-then-n-ne0 : goal.returns-then-n-ne0
returns-then-n-ne0 c =
    let a = c.args in
    λ b s g. tally_no (held a.totals b s g a.tallies.now) a.number c.number_refusal-n.result c.number_refusal-n.ensures c.if-n-ne0.true

use mathlib.Core.Path.{sym, ◌∙◌}
use native.Mathlib.Omega.{arith}
use Rattle.figures.specs.CodeLaws.{number_in, tally_refused, tally_done}
use Rattle.figures_add.proofs.add.add_refusal.Goals as goal

pub returns-then-n-ne0 : goal.returns-then-n-ne0
returns-then-n-ne0 c = let a = c.args in tally_refused a.totals a.tallies.now a.number c.number_refusal-n.result c.number_refusal-n.ensures c.if-n-ne0.true

pub overflow_sub-at : goal.overflow_sub-at
overflow_sub-at c = let a = c.args in let z = sym c.if-n-ne0.false ∙ c.number_refusal-n.ensures in let h = number_in a.number z in omega arith

pub bounds-tallies-at : goal.bounds-tallies-at
bounds-tallies-at c = let a = c.args in let z = sym c.if-n-ne0.false ∙ c.number_refusal-n.ensures in let h = number_in a.number z in omega arith

pub bounds-tallies-at-2 : goal.bounds-tallies-at-2
bounds-tallies-at-2 c = let a = c.args in let z = sym c.if-n-ne0.false ∙ c.number_refusal-n.ensures in let h = number_in a.number z in omega arith

pub returns : goal.returns
returns c = let a = c.args in let z = sym c.if-n-ne0.false ∙ c.number_refusal-n.ensures in let h = number_in a.number z in tally_done a.totals a.tallies.now a.number z c.tallied-t.result c.tallied-t.ensures

use native.Mathlib.Omega.{arith}
use mathlib.Core.Path.{ap}
use Rattle.bins.specs.declared.fetch.Drawn.{Drawn}
use Rattle.bins.specs.FetchLaws.{joined, joined_small, joined_few}
use Rattle.bits.proofs.fetch.fetch.Goals as goal

pub draw-low-requires : goal.draw-low-requires
draw-low-requires c = let h = c.requires in (omega (arith, ap (λ (k : Drawn). k.next.0) c.draw-high.ensures), h.1, omega arith)

pub overflow_add-result : goal.overflow_add-result
overflow_add-result c = let a = c.args in omega (arith, joined_small a.bytes.now a.at.0 a.c c.draw-high.result c.draw-low.result (omega arith) (omega arith) c.draw-high.ensures c.draw-low.ensures)

pub overflow_add-result-2 : goal.overflow_add-result-2
overflow_add-result-2 c = let a = c.args in let h = c.requires in omega (arith, joined_few a.bytes.now a.at.0 a.c c.draw-high.result c.draw-low.result (omega arith) h.2 c.draw-high.ensures c.draw-low.ensures)

pub returns : goal.returns
returns c = let a = c.args in let h = c.requires in joined a.bytes.now a.at.0 a.c c.draw-high.result c.draw-low.result (omega arith) h.2 c.draw-high.ensures c.draw-low.ensures

use mathlib.Core.Path.{ap}
use native.Mathlib.Omega.{arith}
use Rattle.bins.specs.declared.fetch.Drawn.{Drawn}
use Rattle.differs.proofs.payloads.bit.Goals as goal

-- `bit` meets its contract. Assumes nothing.
pub draw-drawn-requires : goal.draw-drawn-requires
draw-drawn-requires c = (omega (arith, c.requires.0), c.requires.1, omega arith)

pub returns : goal.returns
returns c = ap (λ (d : Drawn). d.bits) c.draw-drawn.ensures

use mathlib.Core.Path.{ap}
use Rattle.bins.specs.declared.fetch.Drawn.{Drawn}
use Rattle.cabac.specs.EntryLaws.{started_no, started_yes}
use Rattle.cabac_state.proofs.engine.started_at.Goals as goal

pub returns-then-offset-ge510 : goal.returns-then-offset-ge510
returns-then-offset-ge510 c = let a = c.args in started_no a.bytes.now a.e _ (ap (λ (k : Drawn). k.bits) c.fetch-nine.ensures) c.if-offset-ge510.true

pub returns : goal.returns
returns c = let a = c.args in started_yes a.bytes.now a.e _ _ c.fetch-nine.ensures c.if-offset-ge510.false c.behind.ensures

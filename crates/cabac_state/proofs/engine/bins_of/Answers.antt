use mathlib.Core.Path.{ap}
use Rattle.cabac.specs.Numbers.{accepted}
use Rattle.bins.specs.declared.state.Engine.{Engine}
use Rattle.cabac_state.proofs.engine.bins_of.Goals as goal

pub returns : goal.returns
returns c = ap (λ (e : Engine). accepted (record { value = c.args.t.value; next = e })) c.settle-state.ensures

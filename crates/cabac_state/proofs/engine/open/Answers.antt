use Prim.Native.Nat.{ℕ}
use mathlib.Core.Path.{ap}
use Rattle.bins.specs.declared.state.Interval.{Interval}
use Rattle.cabac_state.proofs.engine.open.Goals as goal

pub returns : goal.returns
returns c =
    let e = c.args.e in
    ap {B = Interval} (λ (k : ℕ). record { range = e.range; offset = e.offset; position = record { 0 = k } }) c.of_payload-position.ensures

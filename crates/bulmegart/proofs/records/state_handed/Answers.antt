use Rattle.bulmegart.specs.RecordLaws.{or_both}
use Rattle.bulmegart.proofs.records.state_handed.Goals as goal

pub returns : goal.returns
returns c = or_both _ _ _ _ _ c.or_else.ensures c.payload_refusal.ensures c.state_flags.ensures

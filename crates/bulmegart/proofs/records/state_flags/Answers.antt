use Rattle.bulmegart.specs.Records.{state_flags}
use Rattle.bulmegart.proofs.records.state_flags.Goals as goal

pub returns : goal.returns
unfolding state_flags
returns c = c.flag_refusal.ensures

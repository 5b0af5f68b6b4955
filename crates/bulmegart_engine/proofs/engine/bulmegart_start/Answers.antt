use mathlib.Core.Path.{ap, ◌∙◌}
use Rattle.cabac.specs.Entries.{state_says}
use Rattle.bulmegart.specs.Records.{no_state}
use Rattle.bulmegart_engine.specs.Exported.{state_given}
use Rattle.bulmegart_engine.proofs.engine.bulmegart_start.Goals as goal

pub returns : goal.returns
returns c = c.state_answer.ensures ∙ ap (λ x. state_given x (state_says c.start.result)) c.no_state.ensures ∙ ap (state_given no_state) c.start.ensures

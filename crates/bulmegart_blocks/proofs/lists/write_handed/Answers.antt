use Rattle.bulmegart.specs.RecordLaws.{or_both}
use Rattle.bulmegart_blocks.proofs.lists.write_handed.Goals as goal

pub returns : goal.returns
returns c = or_both _ _ _ _ _ c.or_else-2.ensures c.params_flags.ensures (or_both _ _ _ _ _ c.or_else.ensures c.flag_refusal.ensures c.choice_refusal.ensures)

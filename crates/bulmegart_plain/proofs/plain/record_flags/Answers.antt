use Rattle.bulmegart.specs.RecordLaws.{or_both}
use Rattle.bulmegart_plain.specs.Plain.{record_flags}
use Rattle.bulmegart_plain.proofs.plain.record_flags.Goals as goal

pub returns : goal.returns
unfolding record_flags
returns c =
    or_both _ _ _ _ _ c.or_else.ensures c.flag_refusal-5.ensures (or_both _ _ _ _ _ c.or_else-from_hiding.ensures c.flag_refusal-4.ensures
    (or_both _ _ _ _ _ c.or_else-from_skip_allowed.ensures c.flag_refusal-3.ensures (or_both _ _ _ _ _ c.or_else-from_lossless.ensures c.flag_refusal.ensures c.flag_refusal-2.ensures)))

use Rattle.bulmegart.specs.Records.{params_flags}
use Rattle.bulmegart.specs.RecordLaws.{or_both}
use Rattle.bulmegart.proofs.records.params_flags.Goals as goal

pub returns : goal.returns
unfolding params_flags
returns c =
    -- cK: behind the K-th `or_else`
    or_both _ _ _ _ _ c.or_else.ensures c.flag_refusal-10.ensures
    (or_both _ _ _ _ _ c.or_else-from_hiding.ensures c.flag_refusal-9.ensures
    (or_both _ _ _ _ _ c.or_else-from_skip_allowed.ensures c.flag_refusal-8.ensures
    (or_both _ _ _ _ _ c.or_else-from_lossless.ensures c.flag_refusal-7.ensures
    (or_both _ _ _ _ _ c.or_else-from_persistent.ensures c.flag_refusal-6.ensures
    (or_both _ _ _ _ _ c.or_else-from_skip_context.ensures c.flag_refusal-5.ensures
    (or_both _ _ _ _ _ c.or_else-from_explicit_rdpcm.ensures c.flag_refusal-4.ensures
    (or_both _ _ _ _ _ c.or_else-from_implicit_rdpcm.ensures c.flag_refusal-3.ensures
    (or_both _ _ _ _ _ c.or_else-from_inter.ensures c.flag_refusal-2.ensures
    (or_both _ _ _ _ _ c.or_else-from_aligning.ensures c.flag_refusal.ensures c.flag_refusal-last.ensures)))))))))

use Rattle.h264_contexts.specs.PairLaws.{initial_code}
use Rattle.h264_block.specs.Contexts.{raised}
use mir.Facts.{to_z-of_z}
use mathlib.Core.Path.{ap, ◌∙◌}
use Rattle.h264_contexts.proofs.contexts.init.Goals as goal

pub returns : goal.returns
returns c = let a = c.args in initial_code a.m a.n a.q c.raise-up.result c.quantiser.result c.slope.result c.raise.result c.clip.result c.pack.result (c.raise-up.ensures.0 ∙ ap raised (to_z-of_z c.ranges.m)) c.quantiser.ensures c.slope.ensures.0 (c.raise.ensures.0 ∙ ap raised (to_z-of_z c.ranges.n)) c.clip.ensures c.pack.ensures

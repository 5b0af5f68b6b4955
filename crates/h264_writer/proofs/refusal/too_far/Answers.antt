use Rattle.std.proofs.Common.{rules, tests, ◌∙◌}
use Rattle.std.proofs.lemmas.Iterator.{YieldsList-from_slice}
use Rattle.std.proofs.lemmas.Iterator.Search.{any_from_yields_List}
use Rattle.h264_writer.specs.RefusalPuts.{is_far, any_far}
use Rattle.h264_writer.proofs.refusal.too_far.Goals as goal

pub returns : goal.returns
returns c =
    let l = c.args.levels.now in
    any_from_yields_List is_far _ _ _ c.any.ensures.ran (YieldsList-from_slice l cc) (λ x b q k. search (rules, tests)) ∙ any_far l

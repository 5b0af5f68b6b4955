use Rattle.std.proofs.Common.{◌≡◌, rules, tests, sym, ◌∙◌}
use Rattle.std.specs.List.{list_all}
use Rattle.std.proofs.lemmas.Iterator.{YieldsList-from_slice}
use Rattle.std.proofs.lemmas.Iterator.Search.{all_from_yields_List}
use Rattle.h264_block.specs.Contexts.{within}
use Rattle.h264_contexts.specs.PairLaws.{all_is, pairs_few, pairs_out, pairs_fine}
use Rattle.h264_contexts.proofs.contexts.pairs_refusal.Goals as goal
use Rattle.h264_contexts.proofs.contexts.pairs_refusal.Goals.{else-pairs-eq80-via-then-pairs-eq80+else-all, else-pairs-eq80-via-else-pairs-eq80}

pub returns-then-all : goal.returns-then-all
returns-then-all c =
    let l = c.args.pairs.now in
    let e : c.all.result ≡ list_all within l = all_from_yields_List within _ _ c.all.result c.all.ensures.ran (YieldsList-from_slice l cc) (λ x b q k. search (rules, tests)) in
    pairs_fine l c.if-pairs-eq80.true (sym (sym c.if-all.true ∙ e ∙ all_is l))

pub returns : goal.returns
returns c =
    let l = c.args.pairs.now in
    elim c.else-pairs-eq80.branch [
      | else-pairs-eq80-via-then-pairs-eq80+else-all w ↦
          let e : w.all.result ≡ list_all within l = all_from_yields_List within _ _ w.all.result w.all.ensures.ran (YieldsList-from_slice l cc) (λ x b q k. search (rules, tests)) in
          pairs_out l w.if-pairs-eq80.true (sym (sym w.if-all.false ∙ e ∙ all_is l))
      | else-pairs-eq80-via-else-pairs-eq80 w ↦ pairs_few l w.if-pairs-eq80.false
    ]

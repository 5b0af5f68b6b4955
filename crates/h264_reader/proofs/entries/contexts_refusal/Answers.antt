use Rattle.std.proofs.Common.{◌≡◌, Bool, cond, ltb, ap, sym, ◌∙◌, rules, tests}
use Rattle.std.specs.List.{list_any}
use Rattle.std.proofs.lemmas.Iterator.{YieldsList-from_slice}
use Rattle.std.proofs.lemmas.Iterator.Search.{any_from_yields_List}
use Rattle.h264_reader.specs.EntriesLaws.{contexts_any}
use Rattle.h264_reader.proofs.entries.contexts_refusal.Goals as goal

pub returns-then-any : goal.returns-then-any
returns-then-any c =
    let l = c.args.contexts.now in
    let e : c.any.result ≡ list_any (ltb 127) l = any_from_yields_List (ltb 127) _ _ c.any.result c.any.ensures.ran (YieldsList-from_slice l cc) (λ x b q k. search (rules, tests)) in
    ap (λ (d : Bool). cond d 3 0) (sym c.if-any.true ∙ e) ∙ contexts_any l

pub returns : goal.returns
returns c =
    let l = c.args.contexts.now in
    let e : c.any.result ≡ list_any (ltb 127) l = any_from_yields_List (ltb 127) _ _ c.any.result c.any.ensures.ran (YieldsList-from_slice l cc) (λ x b q k. search (rules, tests)) in
    ap (λ (d : Bool). cond d 3 0) (sym c.if-any.false ∙ e) ∙ contexts_any l

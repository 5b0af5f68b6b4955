use mathlib.Core.Path.{◌≡◌, sym, subst, ◌∙◌}
use mathlib.Core.Bool.{false}
use Rattle.hevc_residual.specs.Scan.{Spot, spot}
use Rattle.hevc_residual.specs.Wanted.{inner_of, wanted_in, sig_places}
use Rattle.hevc_write_refusal.specs.RefusalAgree.{disagrees_in}
use Rattle.hevc_write_refusal.specs.RefusalLaws.{bare_agrees}
use Rattle.hevc_write_refusal.proofs.refusal.disagrees_at.Goals as goal

pub returns-then-is_bare : goal.returns-then-is_bare
returns-then-is_bare c =
    let a = c.args in
    λ w g.
    let lv = wanted_in a.p (inner_of a.p) (spot c.corner_at-c.result.xs c.corner_at-c.result.ys) in
    subst (λ (s : Spot). false ≡ disagrees_in a.p w s) (sym c.corner_at-c.ensures.1)
    (bare_agrees a.p w lv (sig_places lv w) (sym (c.is_bare.ensures w g.levels) ∙ c.if-is_bare.true))

pub returns : goal.returns
returns c =
    let a = c.args in
    λ w g.
    subst (λ (s : Spot). c.disagrees.result ≡ disagrees_in a.p w s) (sym c.corner_at-c.ensures.1)
    (c.disagrees.ensures (wanted_in a.p (inner_of a.p) (spot c.corner_at-c.result.xs c.corner_at-c.result.ys)) w g.chosen (c.levels_of-levels.ensures w g.levels))

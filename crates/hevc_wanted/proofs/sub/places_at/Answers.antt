use mathlib.Core.Path.{sym, ◌∙◌}
use Rattle.hevc_residual.specs.Scan.{spot}
use Rattle.hevc_residual.specs.Wanted.{inner_of, wanted_in, sig_places}
use Rattle.hevc_wanted.specs.ShownLaws.{places_shown, nothing_packed, nothing_wanted}
use Rattle.hevc_wanted.proofs.sub.places_at.Goals as goal

pub returns-then-is_bare : goal.returns-then-is_bare
returns-then-is_bare c =
    let a = c.args in
    (nothing_packed.0, λ w q. nothing_packed.1 ∙ nothing_wanted (sig_places (wanted_in a.p (inner_of a.p) (spot a.xs a.ys)) w) (sym (c.is_bare.ensures w q) ∙ c.if-is_bare.true))

pub returns : goal.returns
returns c =
    let a = c.args in
    (c.places_of.ensures.0, λ w q. c.places_of.ensures.1 ∙ places_shown (wanted_in a.p (inner_of a.p) (spot a.xs a.ys)) w c.levels_of-levels.result (c.levels_of-levels.ensures w q))

use native.Mathlib.Omega.{arith}
use mathlib.Core.Path.{◌∙◌}
use Rattle.hevc_levels_pen.specs.GreaterPuts.{first_is_lem}
use Rattle.hevc_levels_pen.proofs.greater.first_greater1.Goals as goal

-- `first_greater1` meets its contract. Assumes nothing.
pub place_at-requires : goal.place_at-requires
place_at-requires c =
    let a = c.args in
    let h = c.requires in
    omega (arith, (first_is_lem a.n a.mask a.s.count a.s.packed 32 h.3 h.2 h.1 (omega (arith, h.0.few))).0, h.0.few)

pub returns : goal.returns
returns c =
    let a = c.args in
    let h = c.requires in
    let f = first_is_lem a.n a.mask a.s.count a.s.packed 32 h.3 h.2 h.1 (omega (arith, h.0.few)) in
    (c.place_at.ensures.0, c.place_at.ensures.1 a.s.count (omega (arith, f.0)) ∙ f.1)

use Rattle.cabac.specs.EntryLaws.{settle_code}
use mathlib.Core.Path.{ap, ◌∙◌}
use Prim.Native.Nat.{◌-◌, min}
use Rattle.bins.specs.Bits.{ends, added}
use Rattle.cabac_state.proofs.engine.settle.Goals as goal

pub returns : goal.returns
returns c =
    let a = c.args in
    let ran = c.in_payload-ran.ensures in
    settle_code a.bytes.now a.e a.x _ _ (c.cut-at.ensures ∙ ap (λ p. min p (ends a.bytes.now)) ran)
    (c.added_to-past.ensures ∙ ap (added a.e.past) (c.ran_past.ensures ∙ ap (λ p. p - ends a.bytes.now) ran))

use mathlib.Core.Path.{refl, ◌∙◌}
use Rattle.frame.specs.VerdictLaws.{params_is}
use Rattle.frame.proofs.fields.params.Goals as goal

pub returns : goal.returns
returns c =
    let a = c.args in
    c.all_off.ensures ∙ params_is a.bytes.now _ _ _ refl refl refl

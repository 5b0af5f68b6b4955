use Rattle.hevc_stored.specs.SignLaws.{sign_hidden_lem, sign_coded}
use Rattle.hevc_stored.proofs.stored.is_negative.Goals as goal

-- `is_negative` meets its contract. Assumes nothing.
pub returns-then-left-eq0 : goal.returns-then-left-eq0
returns-then-left-eq0 c =
    let a = c.args in
    sign_hidden_lem a.left a.signs a.sum c.if-left-eq0.true

pub returns : goal.returns
returns c =
    let a = c.args in
    sign_coded a.left a.signs a.sum c.if-left-eq0.false

use Rattle.hevc_write_refusal.specs.RefusalLaws.{none_agrees, coded_agrees, hidden_disagrees}
use Rattle.hevc_write_refusal.proofs.refusal.disagrees.Goals as goal

pub returns-then-s-eq0 : goal.returns-then-s-eq0
returns-then-s-eq0 c =
    let a = c.args in
    λ lv w g e. none_agrees a.p a.h a.levels.now c.places_of-s.result c.places_of-s.ensures.1 lv w g e c.if-s-eq0.true

pub returns-then-hidden-eq0 : goal.returns-then-hidden-eq0
returns-then-hidden-eq0 c =
    let a = c.args in
    λ lv w g e. coded_agrees a.p a.h a.levels.now c.places_of-s.result c.places_of-s.ensures.1 lv w g e c.if-s-eq0.false
    c.hidden.result c.hidden.ensures c.if-hidden-eq0.true

pub returns : goal.returns
returns c =
    let a = c.args in
    λ lv w g e. hidden_disagrees a.p a.h a.levels.now c.places_of-s.result c.places_of-s.ensures.1 lv w g e c.if-s-eq0.false
    c.hidden.result c.hidden.ensures c.if-hidden-eq0.false c.sign_off.result c.sign_off.ensures

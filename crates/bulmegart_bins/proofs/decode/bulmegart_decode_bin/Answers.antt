use Rattle.cabac.specs.Entries as entries
use Rattle.bins.specs.declared.state.Engine.{Engine}
use Rattle.bulmegart_engine.specs.Exported.{decision_given}
use Rattle.bulmegart.specs.RecordLaws.{behind_no, behind_yes}
use Rattle.bulmegart_bins.proofs.decode.bulmegart_decode_bin.Goals as goal

pub returns-then-n-ne0 : goal.returns-then-n-ne0
returns-then-n-ne0 c = let a = c.args in behind_no (decision_given a.context a.state) _ _ _ _ c.state_handed-n.ensures c.if-n-ne0.true c.decision_answer.ensures

pub returns : goal.returns
returns c = let a = c.args in behind_yes (decision_given a.context a.state) (λ (e : Engine). entries.decision a.payload.now e a.context) _ _ _ _ _ _ c.state_handed-n.ensures c.if-n-ne0.false c.decision_answer-2.ensures c.decode_bin.ensures c.into.ensures

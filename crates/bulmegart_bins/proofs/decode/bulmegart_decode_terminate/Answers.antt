use Rattle.cabac.specs.Entries as entries
use Rattle.bins.specs.declared.state.Engine.{Engine}
use Rattle.bulmegart_engine.specs.Exported.{bins_given}
use Rattle.bulmegart.specs.RecordLaws.{behind_no, behind_yes}
use Rattle.bulmegart_bins.proofs.decode.bulmegart_decode_terminate.Goals as goal

pub returns-then-n-ne0 : goal.returns-then-n-ne0
returns-then-n-ne0 c = let a = c.args in behind_no (bins_given a.state) _ _ _ _ c.state_handed-n.ensures c.if-n-ne0.true c.bins_answer.ensures

pub returns : goal.returns
returns c = let a = c.args in behind_yes (bins_given a.state) (λ (e : Engine). entries.terminate a.payload.now e) _ _ _ _ _ _ c.state_handed-n.ensures c.if-n-ne0.false c.bins_answer-2.ensures c.decode_terminate.ensures c.into.ensures

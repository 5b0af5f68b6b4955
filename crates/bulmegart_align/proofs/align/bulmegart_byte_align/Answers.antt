use Rattle.cabac.specs.Entries as entries
use Rattle.bins.specs.declared.state.Engine.{Engine}
use Rattle.bulmegart_engine.specs.Exported.{state_given}
use Rattle.bulmegart.specs.RecordLaws.{behind_no, behind_yes}
use Rattle.bulmegart_align.proofs.align.bulmegart_byte_align.Goals as goal

pub returns-then-n-ne0 : goal.returns-then-n-ne0
returns-then-n-ne0 c = let a = c.args in behind_no (state_given a.state) _ _ _ _ c.state_handed-n.ensures c.if-n-ne0.true c.state_answer.ensures

pub returns : goal.returns
returns c = let a = c.args in behind_yes (state_given a.state) (λ (e : Engine). entries.byte_align a.payload.now e) _ _ _ _ _ _ c.state_handed-n.ensures c.if-n-ne0.false c.state_answer-2.ensures c.byte_align.ensures c.into.ensures

use Rattle.cabac.specs.EntryLaws.{behind_code}
use Rattle.cabac_state.proofs.engine.behind.Goals as goal

pub returns : goal.returns
returns c = let a = c.args in behind_code a.bytes.now a.e a.range a.offset a.d _ _ c.cut-at.ensures c.added_to-past.ensures

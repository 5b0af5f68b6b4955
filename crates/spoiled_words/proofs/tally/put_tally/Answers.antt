use Rattle.spoiled.specs.Salvage.{tally_words}
use Rattle.text_room.specs.Laws.{piece_behind}
use native.Mathlib.Omega.{arith}
use Rattle.spoiled_words.proofs.tally.put_tally.Goals as goal

pub returns : goal.returns
unfolding tally_words
returns c = (piece_behind _ _ _ _ c.put_count.ensures.0 (piece_behind _ _ _ _ c.put_count-c.ensures.0 (piece_behind _ _ _ _ c.put_count-b.ensures.0 c.put_lines-a.ensures.0)), omega arith)

use Rattle.spoiled.specs.CodeLaws.{one_line, more_lines}
use Rattle.text_room.specs.Laws.{one_piece}
use Rattle.text_room.specs.Decimal.{decimal}
use native.Mathlib.Omega.{arith}
use Rattle.spoiled_words.proofs.tally.put_lines.Goals as goal

pub returns-then-n-eq1 : goal.returns-then-n-eq1
returns-then-n-eq1 c = let a = c.args in (one_piece _ (decimal a.n) _ _ c.put_count.ensures.0 (one_line a.n c.if-n-eq1.true), omega arith)

pub returns : goal.returns
returns c = let a = c.args in (one_piece _ (decimal a.n) _ _ c.put_count-2.ensures.0 (more_lines a.n c.if-n-eq1.false), omega arith)

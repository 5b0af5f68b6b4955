use native.Mathlib.Omega.{arith}
use Rattle.book_lines.specs.CodeLaws.{push_full, push_more}
use Rattle.book_lines.proofs.pending.push.Goals as goal

-- `push` meets its contract. Assumes nothing.
pub returns-then-held-ge-MOST_HELD : goal.returns-then-held-ge-MOST_HELD
returns-then-held-ge-MOST_HELD c = let a = c.args in (push_full a.line.now a.held a.b c.requires.0 (omega arith) (omega arith), omega arith, omega arith)

pub returns : goal.returns
returns c = let a = c.args in (push_more a.line.now a.held a.b c.requires.0 (omega arith), omega arith, omega arith)

use mathlib.Core.Path.{◌≡◌}
use lib.ListN.{length}
use Rattle.book_answers.specs.CodeLaws.{Feeding}
use Rattle.book_answering.proofs.answering.feed.Given as goal

-- `feed` meets its contract. Assumes nothing.
abbrev pub invariant-loop-b : goal.invariant-loop-b
invariant-loop-b l = (length l.line ≡ length l.initial.line) × (length l.tally ≡ length l.initial.tally) × (length l.out ≡ length l.initial.out) × Feeding l.piece l.initial.line l.line l.initial.tally l.tally l.out l.initial.s l.s l.b-index

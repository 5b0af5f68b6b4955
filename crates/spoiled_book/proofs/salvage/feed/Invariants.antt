use mathlib.Core.Path.{◌≡◌}
use lib.ListN.{length}
use Rattle.spoiled_book.specs.FeedLaws.{Feeding}
use Rattle.spoiled_book.proofs.salvage.feed.Given as goal

-- `feed` meets its contract. Assumes nothing.
abbrev pub invariant-loop-b : goal.invariant-loop-b
invariant-loop-b l = (length l.line ≡ length l.initial.line) × (length l.book ≡ length l.initial.book) × (length l.report ≡ length l.initial.report) × Feeding l.piece l.initial.line l.line l.book l.report l.initial.s l.s l.b-index

use mathlib.Core.Path.{◌≡◌}
use lib.ListN.{length}
use Rattle.morning_add.specs.Agree.{four_of}
use Rattle.morning_add.specs.CodeLaws.{Fed}
use Rattle.morning_sums.proofs.feeding.feed.Given as goal

-- `feed` meets its contract. Assumes nothing.
abbrev pub invariant-loop-b : goal.invariant-loop-b
invariant-loop-b l = (length l.line ≡ length l.initial.line)
    × Fed l.piece l.initial.line l.line (four_of l.initial.t.sizes l.initial.blocks4 l.initial.sums4 l.initial.greatests4 l.initial.blocks8 l.initial.sums8 l.initial.greatests8 l.initial.blocks16 l.initial.sums16 l.initial.greatests16 l.initial.blocks32 l.initial.sums32 l.initial.greatests32 l.initial.tallies) (four_of l.t.sizes l.blocks4 l.sums4 l.greatests4 l.blocks8 l.sums8 l.greatests8 l.blocks16 l.sums16 l.greatests16 l.blocks32 l.sums32 l.greatests32 l.tallies) l.initial.t.line l.t.line l.b-index

-- What the code's answers mean.
use Rattle.std.specs.Prelude.{ℕ, List, ℤ, Ok, Err, Result}
use Rattle.figures.specs.Figures.{Event, block, refusal}
use Rattle.figures.specs.Agree.{held}
use Rattle.morning_add.specs.declared.event.BlockRead.{BlockRead}
use Rattle.morning_add.specs.declared.adding.One.{One}
use Rattle.morning_add.specs.declared.adding.Sizes.{Sizes}
use Rattle.morning_add.specs.Sums.{Sum, Four}

abbrev pub LineRead : Type 0
LineRead = Result BlockRead ℕ

abbrev pub block_read : ℕ → ℕ → LineRead
block_read log2 past = Ok (record { log2 = log2; past = past })

unfoldable pub event_of : LineRead → List ℤ → Event
event_of (Ok b) levels = block b.log2 levels b.past
event_of (Err n) levels = refusal n

-- lent figures of a size
abbrev pub sum_of : One → List ℕ → List ℕ → List ℕ → List ℕ → Sum
sum_of o blocks sums greatests tallies = record { figures = held o.totals blocks sums greatests tallies; full = o.full }

-- and of the four: the tallies are kept once
abbrev pub four_of : Sizes → List ℕ → List ℕ → List ℕ → List ℕ → List ℕ → List ℕ → List ℕ → List ℕ → List ℕ → List ℕ → List ℕ → List ℕ → List ℕ → Four
four_of z b4 s4 g4 b8 s8 g8 b16 s16 g16 b32 s32 g32 k =
    record {
      of4 = sum_of z.of4 b4 s4 g4 k;
      of8 = sum_of z.of8 b8 s8 g8 k;
      of16 = sum_of z.of16 b16 s16 g16 k;
      of32 = sum_of z.of32 b32 s32 g32 k;
    }

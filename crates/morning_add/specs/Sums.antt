-- The figures of a book (document 02, (x)): of each size those of all its lines, one after the other, by the book's own verdict and the figures' own adding.
use Rattle.std.specs.Prelude.{ℕ, Bool, false, ◌||◌, List, [], ◌∷◌, eqb, ℤ, Ok, Err}
use Rattle.text_fields.specs.Spelled.{octets_of}
use Rattle.book_lines.specs.Lines.{Line, program}
use Rattle.frame.specs.Frame.{byte_of}
use Rattle.frame.specs.Verdict.{levels_of, Verdict}
use Rattle.book_answers.specs.Answers.{judged}
use Rattle.figures.specs.Figures.{Event, block, refusal, Figures}
use Rattle.figures.specs.Entries.{begun, add}

-- ---- what a line adds: the block of the frame that it spells, or the number that it is refused by
unfoldable pub event_by : Verdict → ℕ → List ℤ → Event
event_by (Ok j) log2 levels = block log2 levels j.past
event_by (Err n) log2 levels = refusal n

abbrev pub framed : Verdict → List ℕ → Event
framed v bytes = event_by v (byte_of bytes 0) (levels_of bytes)

unfoldable pub line_event : Line → Event
line_event l = framed (judged l) (octets_of l.text)

unfoldable pub event_line : ℕ → Line → List Event
event_line n l = line_event l ∷ []

abbrev pub events : List ℕ → List Event
events s = program event_line s

-- ---- the figures of a size, and whether a block was left out since 4,096 were there
pub record Sum : Type 0 where
  pub figures : Figures
  pub full : Bool

unfoldable pub plus : Sum → Event → Sum
plus s e = let a = add s.figures e in record { figures = a.figures; full = s.full || eqb a.answer 23 }

-- a refusal has no sure size: each size's tally is the whole book's
pub record Four : Type 0 where
  pub of4 : Sum
  pub of8 : Sum
  pub of16 : Sum
  pub of32 : Sum

abbrev pub four_plus : Four → Event → Four
four_plus f e = record { of4 = plus f.of4 e; of8 = plus f.of8 e; of16 = plus f.of16 e; of32 = plus f.of32 e }

unfoldable pub added : Four → List Event → Four
unfolding plus
added f [] = f
added f (e ∷ es) = added (four_plus f e) es

abbrev pub no_sum : ℕ → Sum
no_sum log2 = record { figures = begun log2; full = false }

abbrev pub no_sums : Four
no_sums = record { of4 = no_sum 2; of8 = no_sum 3; of16 = no_sum 4; of32 = no_sum 5 }

-- THE figures of a book
abbrev pub book_sums : List ℕ → Four
book_sums s = added no_sums (events s)

-- The exported functions of the book: what they are handed, refused or taken.
use Rattle.std.specs.Prelude.{ℕ, ◌+◌, ◌*◌, ◌≡◌, Bool, cond, ◌&&◌, List, [], leb, ltb, eqb, length, take}
use Rattle.book_lines.specs.Lines.{Line}
use Rattle.book_lines.specs.Steps.{Reading, fed_state, fed_out, end_out}
use Rattle.book_answers.specs.Gave.{Gave}
use Rattle.bulmegart_book.specs.declared.BookAnswer.{BookAnswer}

-- a line that the calls leave: no more held than the buffer has, and a number for each line that could end
abbrev pub sound : ℕ → ℕ → ℕ → ℕ → Bool
sound buffer line held lines = eqb buffer 8469 && (leb held 8469 && ltb (line + lines) 18446744073709551616)

-- 4, 12
unfoldable pub handed_refusal : ℕ → ℕ → ℕ → ℕ → ℕ → ℕ
handed_refusal buffer line held lines room = cond (sound buffer line held lines) (cond (leb (70 * lines) room) 0 12) 4

-- the line that is being read, as the buffer holds it
abbrev pub reading_of : List ℕ → ℕ → ℕ → Reading
reading_of buffer line held = record { number = line; held = take held buffer }

-- a refused call gives its number and changes nothing
abbrev pub refused_by : ℕ → ℕ → ℕ → BookAnswer
refused_by n line held = record { number = n; line = line; held = held; written = 0 }

-- a piece: buffer, tally and room are lent, and stand behind it as buffer', tally' and room'
pub data Fed (piece buffer : List ℕ) (line held : ℕ) (tally room : List ℕ) (r : BookAnswer) (buffer' tally' room' : List ℕ) : Type 0 where
  taken : handed_refusal (length buffer) line held (length piece) (length room) ≡ 0 → r.number ≡ 0
      → reading_of buffer' r.line r.held ≡ fed_state (reading_of buffer line held) piece
      → Gave (λ (f : ℕ → Line → List ℕ). fed_out f (reading_of buffer line held) piece) [] tally (take r.written room') tally'
      → Fed piece buffer line held tally room r buffer' tally' room'
  refused : (handed_refusal (length buffer) line held (length piece) (length room) ≡ 0 → ⊥)
      → r ≡ refused_by (handed_refusal (length buffer) line held (length piece) (length room)) line held → buffer' ≡ buffer → tally' ≡ tally → room' ≡ room
      → Fed piece buffer line held tally room r buffer' tally' room'

-- the end: at most one line
pub data Ended (buffer : List ℕ) (line held : ℕ) (tally room : List ℕ) (r : BookAnswer) (tally' room' : List ℕ) : Type 0 where
  taken : handed_refusal (length buffer) line held 1 (length room) ≡ 0 → r.number ≡ 0
      → Gave (λ (f : ℕ → Line → List ℕ). end_out f (reading_of buffer line held)) [] tally (take r.written room') tally'
      → Ended buffer line held tally room r tally' room'
  refused : (handed_refusal (length buffer) line held 1 (length room) ≡ 0 → ⊥)
      → r ≡ refused_by (handed_refusal (length buffer) line held 1 (length room)) line held → tally' ≡ tally → room' ≡ room
      → Ended buffer line held tally room r tally' room'

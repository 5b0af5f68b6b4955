-- What a program writes of a text, byte by byte and with bounded memory (LineLaws, cut: it is what `program` says of the whole text).
use Rattle.std.specs.Prelude.{ℕ, suc, cond, List, [], ◌∷◌, ◌++◌, eqb, take}
use Rattle.book_lines.specs.declared.pending.Pending.{Pending}
use Rattle.book_lines.specs.Lines.{Line, ended, line_feed, last_line, written}

-- of a line no more than this is held: one byte more than a frame's line may have
unfoldable pub most_held : ℕ
most_held = 8469

pub record Reading : Type 0 where
  pub number : ℕ  -- of the line that is being read, from 1
  pub held : List ℕ  -- its bytes so far

-- the code's: so many bytes at the front of a buffer
abbrev pub reading : List ℕ → Pending → Reading
reading line p = record { number = p.number; held = take p.held line }

abbrev pub begun : Reading
begun = record { number = 1; held = [] }

-- the first line, nothing of it read
abbrev pub first_line : Pending
first_line = record { number = 1; held = 0 }

unfoldable pub grown : List ℕ → ℕ → List ℕ
grown held b = take most_held (held ++ (b ∷ []))

-- ---- one byte
unfoldable pub step_state : Reading → ℕ → Reading
unfolding grown
step_state r b =
    cond (eqb b line_feed) (record { number = suc r.number; held = [] }) (record { number = r.number; held = grown r.held b })

unfoldable pub step_out : {A : Type 0} → (ℕ → Line → List A) → Reading → ℕ → List A
step_out f r b = cond (eqb b line_feed) (f r.number (ended r.held)) []

-- ---- a piece of the text
unfoldable pub fed_state : Reading → List ℕ → Reading
unfolding step_state
fed_state r [] = r
fed_state r (b ∷ s) = fed_state (step_state r b) s

unfoldable pub fed_out : {A : Type 0} → (ℕ → Line → List A) → Reading → List ℕ → List A
unfolding step_state step_out
fed_out f r [] = []
fed_out f r (b ∷ s) = step_out f r b ++ fed_out f (step_state r b) s

-- ---- the end of the text
unfoldable pub end_out : {A : Type 0} → (ℕ → Line → List A) → Reading → List A
unfolding written last_line
end_out f r = written f r.number (last_line r.held)

-- ---- piece after piece, then the end: all that is written, one after the other
unfoldable pub pieces_out : {A : Type 0} → (ℕ → Line → List A) → Reading → List (List ℕ) → List A
unfolding fed_state fed_out end_out
pieces_out f r [] = end_out f r
pieces_out f r (c ∷ cs) = fed_out f r c ++ pieces_out f (fed_state r c) cs

unfoldable pub joined : List (List ℕ) → List ℕ
joined [] = []
joined (c ∷ cs) = c ++ joined cs

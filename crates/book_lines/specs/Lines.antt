-- A text as lines, and what a program writes of them.
use Rattle.std.specs.Prelude.{ℕ, suc, Bool, true, false, cond, List, [], ◌∷◌, ◌++◌, eqb}

abbrev pub line_feed : ℕ
line_feed = 10

-- a line: its bytes without the line feed, and whether there was one
pub record Line : Type 0 where
  pub text : List ℕ
  pub finished : Bool

abbrev pub line_of : List ℕ → Bool → Line
line_of l e = record { text = l; finished = e }

abbrev pub ended : List ℕ → Line
ended l = record { text = l; finished = true }

-- where the text ends: bytes behind the last line feed are an unfinished line; none are no line
unfoldable pub last_line : List ℕ → List Line
last_line [] = []
last_line (b ∷ l) = record { text = b ∷ l; finished = false } ∷ []

-- the lines of a text, of whose first line some bytes were read before
unfoldable pub lines_from : List ℕ → List ℕ → List Line
unfolding last_line
lines_from held [] = last_line held
lines_from held (b ∷ s) = cond (eqb b line_feed) (ended held ∷ lines_from [] s) (lines_from (held ++ (b ∷ [])) s)

abbrev pub lines : List ℕ → List Line
lines s = lines_from [] s

-- what a program writes, or takes down: of each line what f says, by its number, from 1, and its bytes
unfoldable pub written : {A : Type 0} → (ℕ → Line → List A) → ℕ → List Line → List A
written f n [] = []
written f n (l ∷ ls) = f n l ++ written f (suc n) ls

abbrev pub program : {A : Type 0} → (ℕ → Line → List A) → List ℕ → List A
program f s = written f 1 (lines s)

-- The answers to a book of test pieces (document 02, (viii)): a line for each line.
use Rattle.std.specs.Prelude.{ℕ, zero, suc, ◌+◌, cond, List, [], ◌∷◌, ◌++◌, ltb, get_or, set, replicate, Ok, Err}
use Rattle.text_fields.specs.Spelled.{octets_of}
use Rattle.text_room.specs.Decimal.{decimal}
use Rattle.book_lines.specs.Lines.{Line, line_feed, program}
use Rattle.book_lines.specs.Form.{form_refusal}
use Rattle.frame.specs.Verdict.{verdict, Verdict, ok}

-- ---- the verdict on a line: behind the form, which gave the number n, that on the bytes that it spells
unfoldable pub judged_by : ℕ → List ℕ → Verdict
unfolding verdict
judged_by zero l = verdict (octets_of l)
judged_by (suc n) l = Err (suc n)

unfoldable pub judged : Line → Verdict
unfolding judged_by
judged l = judged_by (form_refusal l) l.text

-- ---- the line that is written: its number, then ` ok GREATEST PAST` or ` no NUMBER`
abbrev pub ok_word : List ℕ
ok_word = 32 ∷ 111 ∷ 107 ∷ 32 ∷ []

abbrev pub no_word : List ℕ
no_word = 32 ∷ 110 ∷ 111 ∷ 32 ∷ []

unfoldable pub ok_words : ℕ → ℕ → List ℕ
unfolding decimal
ok_words greatest past = ok_word ++ (decimal greatest ++ ((32 ∷ []) ++ decimal past))

unfoldable pub no_words : ℕ → List ℕ
unfolding decimal
no_words n = no_word ++ decimal n

unfoldable pub verdict_words : Verdict → List ℕ
unfolding ok_words no_words
verdict_words (Ok j) = ok_words j.greatest j.past
verdict_words (Err n) = no_words n

unfoldable pub answer_line : ℕ → Line → List ℕ
unfolding decimal judged verdict_words
answer_line n l = decimal n ++ (verdict_words (judged l) ++ (line_feed ∷ []))

-- THE output of the book's program
abbrev pub answers : List ℕ → List ℕ
answers s = program answer_line s

-- ---- the tally: how often each number was given; 0 is ok
abbrev pub outcome : Verdict → ℕ
outcome (Ok j) = 0
outcome (Err n) = n

unfoldable pub outcome_line : ℕ → Line → List ℕ
unfolding judged
outcome_line n l = outcome (judged l) ∷ []

-- a count stops at the end of 64 bits
unfoldable pub one_more : ℕ → ℕ
one_more n = cond (ltb n 18446744073709551615) (n + 1) n

-- a tally with these numbers more
unfoldable pub counted : List ℕ → List ℕ → List ℕ
unfolding one_more
counted t [] = t
counted t (k ∷ l) = counted (set t k (one_more (get_or t k 0))) l

-- the numbers from 0 to 22
abbrev pub no_frames : List ℕ
no_frames = replicate 23 0

-- THE tally
abbrev pub tallied : List ℕ → List ℕ
tallied s = counted no_frames (program outcome_line s)

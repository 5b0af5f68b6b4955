-- Salvage of a spoiled book (document 02, (ix)): the book that comes out, the report of what became of each line, and the words at its end.
use Rattle.std.specs.Prelude.{ℕ, zero, suc, ◌+◌, Bool, cond, List, [], ◌∷◌, ◌++◌, eqb}
use Rattle.text_fields.specs.Spelled.{within}
use Rattle.text_room.specs.Decimal.{decimal}
use Rattle.book_lines.specs.Lines.{Line, line_feed, program}
use Rattle.book_lines.specs.Form.{form_refusal}
use Rattle.spoiled.specs.declared.tally.Tally.{Tally}

-- ---- upper-case digits: A to F
abbrev pub is_upper : ℕ → Bool
is_upper b = within 65 70 b

unfoldable pub lower : ℕ → ℕ
lower b = cond (is_upper b) (b + 32) b

unfoldable pub lowered : List ℕ → List ℕ
unfolding lower
lowered [] = []
lowered (b ∷ l) = lower b ∷ lowered l

-- how many they are
unfoldable pub uppers : List ℕ → ℕ
uppers [] = 0
uppers (b ∷ l) = cond (is_upper b) 1 0 + uppers l

unfoldable pub lowered_line : Line → Line
unfolding lowered
lowered_line l = record { text = lowered l.text; finished = l.finished }

-- ---- what becomes of a line: 0 where it is copied, else the number by which it is dropped, which is that of the lowered line
unfoldable pub fate : Line → ℕ
unfolding lowered_line
fate l = form_refusal (lowered_line l)

unfoldable pub kept_of : ℕ → List ℕ → List ℕ
kept_of zero l = l
kept_of (suc n) l = []

unfoldable pub salvaged_as : ℕ → List ℕ → List ℕ
unfolding kept_of
salvaged_as n l = kept_of n (l ++ (line_feed ∷ []))

unfoldable pub salvaged_line : ℕ → Line → List ℕ
unfolding salvaged_as fate lowered
salvaged_line n l = salvaged_as (fate l) (lowered l.text)

-- THE book that comes out
abbrev pub salvaged : List ℕ → List ℕ
salvaged s = program salvaged_line s

-- ---- the report: `N kept`, `N lowered K` or `N dropped NUMBER` for each line
abbrev pub kept_word : List ℕ
kept_word = 32 ∷ 107 ∷ 101 ∷ 112 ∷ 116 ∷ []

abbrev pub lowered_word : List ℕ
lowered_word = 32 ∷ 108 ∷ 111 ∷ 119 ∷ 101 ∷ 114 ∷ 101 ∷ 100 ∷ 32 ∷ []

abbrev pub dropped_word : List ℕ
dropped_word = 32 ∷ 100 ∷ 114 ∷ 111 ∷ 112 ∷ 112 ∷ 101 ∷ 100 ∷ 32 ∷ []

unfoldable pub fate_words : ℕ → ℕ → List ℕ
unfolding decimal
fate_words zero zero = kept_word
fate_words zero (suc k) = lowered_word ++ decimal (suc k)
fate_words (suc n) k = dropped_word ++ decimal (suc n)

unfoldable pub report_line : ℕ → Line → List ℕ
unfolding decimal fate_words fate uppers
report_line n l = decimal n ++ (fate_words (fate l) (uppers l.text) ++ (line_feed ∷ []))

-- THE report
abbrev pub salvage_report : List ℕ → List ℕ
salvage_report s = program report_line s

-- ---- the words at the end: `N lines: N kept, N lowered, N dropped`
-- 0 kept, 1 lowered, 2 dropped
unfoldable pub kind_of : ℕ → ℕ → ℕ
kind_of zero zero = 0
kind_of zero (suc k) = 1
kind_of (suc n) k = 2

unfoldable pub kind_line : ℕ → Line → List ℕ
unfolding kind_of fate uppers
kind_line n l = kind_of (fate l) (uppers l.text) ∷ []

-- how often k stands in a list
unfoldable pub count : ℕ → List ℕ → ℕ
count k [] = 0
count k (x ∷ l) = cond (eqb x k) 1 0 + count k l

-- a tally with lines of so many kinds more
unfoldable pub counted : Tally → List ℕ → Tally
unfolding count
counted t l = record { kept = t.kept + count 0 l; lowered = t.lowered + count 1 l; dropped = t.dropped + count 2 l }

abbrev pub no_lines : Tally
no_lines = record { kept = 0; lowered = 0; dropped = 0 }

abbrev pub all : Tally → ℕ
all t = t.kept + t.lowered + t.dropped

-- THE tally
abbrev pub tallied : List ℕ → Tally
tallied s = counted no_lines (program kind_line s)

-- ` line: ` of one, ` lines: ` of any other number
unfoldable pub lines_word : ℕ → List ℕ
lines_word n =
    cond (eqb n 1) (32 ∷ 108 ∷ 105 ∷ 110 ∷ 101 ∷ 58 ∷ 32 ∷ []) (32 ∷ 108 ∷ 105 ∷ 110 ∷ 101 ∷ 115 ∷ 58 ∷ 32 ∷ [])

unfoldable pub tally_words : Tally → List ℕ
unfolding decimal lines_word
tally_words t =
    (decimal (all t) ++ lines_word (all t))
    ++ (decimal t.kept ++ (32 ∷ 107 ∷ 101 ∷ 112 ∷ 116 ∷ 44 ∷ 32 ∷ []))
    ++ (decimal t.lowered ++ (32 ∷ 108 ∷ 111 ∷ 119 ∷ 101 ∷ 114 ∷ 101 ∷ 100 ∷ 44 ∷ 32 ∷ []))
    ++ (decimal t.dropped ++ (32 ∷ 100 ∷ 114 ∷ 111 ∷ 112 ∷ 112 ∷ 101 ∷ 100 ∷ 10 ∷ []))

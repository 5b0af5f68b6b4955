-- The form of a frame's line: which number it is refused by (document 02, (viii)).
use Rattle.std.specs.Prelude.{ℕ, zero, suc, ◌+◌, ◌-◌, ◌*◌, ◌%◌, Bool, true, ◌&&◌, ◌||◌, cond, List, [], ◌∷◌, leb, eqb, length, get_or}
use Rattle.text_fields.specs.Spelled.{within}
use Rattle.book_lines.specs.Lines.{Line}

-- the longest line: 8 bytes, 130 initial values, a payload of 4,096 bytes
abbrev pub most_digits : ℕ
most_digits = 8468

-- lower-case hexadecimal: 0 to 9, a to f
unfoldable pub is_digit : ℕ → Bool
is_digit b = within 48 57 b || within 97 102 b

unfoldable pub all_digits : List ℕ → Bool
unfolding is_digit
all_digits [] = true
all_digits (b ∷ l) = is_digit b && all_digits l

-- what a digit counts
unfoldable pub worth : ℕ → ℕ
worth b = cond (leb b 57) (b - 48) (b - 87)

-- bytes 6 and 7 of a frame, high first: digits 12 to 15
unfoldable pub length_field : List ℕ → ℕ
unfolding worth
length_field l =
    ((worth (get_or l 12 0) * 16 + worth (get_or l 13 0)) * 16 + worth (get_or l 14 0)) * 16 + worth (get_or l 15 0)

-- the shortest line: 8 bytes, 130 initial values, no payload
abbrev pub front_digits : ℕ
front_digits = 276

-- digits throughout, two a byte, a line feed behind them
unfoldable pub spells_bytes : Line → Bool
unfolding all_digits
spells_bytes l = all_digits l.text && (eqb (length l.text % 2) 0 && l.finished)

-- long enough, and as long as it says
unfoldable pub agrees : List ℕ → Bool
unfolding length_field
agrees l = leb front_digits (length l) && eqb (length l) (front_digits + 2 * length_field l)

-- ---- 22, 20, 21
abbrev pub long_refusal : Line → ℕ
long_refusal l = cond (leb (length l.text) most_digits) 0 22

unfoldable pub spelling_refusal : Line → ℕ
unfolding spells_bytes
spelling_refusal l = cond (spells_bytes l) 0 20

unfoldable pub length_refusal : Line → ℕ
unfolding agrees
length_refusal l = cond (agrees l.text) 0 21

-- the first number that is not 0
unfoldable pub first_of : ℕ → ℕ → ℕ
first_of zero m = m
first_of (suc n) m = suc n

-- in that order; 0 where the form is kept
unfoldable pub form_refusal : Line → ℕ
unfolding spelling_refusal length_refusal first_of
form_refusal l = first_of (long_refusal l) (first_of (spelling_refusal l) (length_refusal l))

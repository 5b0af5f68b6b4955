-- Worked cases: what comes out of short texts, computed from the definitions.
use Rattle.std.specs.Prelude.{ℕ, ◌≡◌, refl, List, [], ◌∷◌, ◌++◌, replicate}
use Rattle.text_room.specs.Decimal.{decimal_in, decimal}
use Rattle.book_lines.specs.Lines.{last_line, lines_from, written}
use Rattle.book_lines.specs.Form.{is_digit, all_digits, worth, length_field, spells_bytes, agrees, spelling_refusal, length_refusal, first_of, form_refusal}
use Rattle.spoiled.specs.Salvage.{lower, lowered, uppers, lowered_line, fate, kept_of, salvaged_as, salvaged_line, salvaged, fate_words, report_line, salvage_report, kind_line, count, counted, tallied, lines_word, tally_words}

-- `1 dropped 2`, behind which the second digit stands
abbrev dropped_twenty : List ℕ
dropped_twenty = 49 ∷ 32 ∷ 100 ∷ 114 ∷ 111 ∷ 112 ∷ 112 ∷ 101 ∷ 100 ∷ 32 ∷ 50 ∷ []

-- `AB` without a line feed: 20
pub unfinished : salvage_report (65 ∷ 66 ∷ []) ≡ dropped_twenty ++ (48 ∷ 10 ∷ [])
unfolding decimal_in decimal last_line lines_from written is_digit all_digits worth length_field spells_bytes agrees spelling_refusal length_refusal first_of form_refusal lower lowered uppers lowered_line fate fate_words report_line
unfinished = refl

-- `AB`: 21, the number of the lowered line
pub short : salvage_report (65 ∷ 66 ∷ 10 ∷ []) ≡ dropped_twenty ++ (49 ∷ 10 ∷ [])
unfolding decimal_in decimal last_line lines_from written is_digit all_digits worth length_field spells_bytes agrees spelling_refusal length_refusal first_of form_refusal lower lowered uppers lowered_line fate fate_words report_line
short = refl

-- `G`: 20
pub no_digit : salvage_report (71 ∷ 10 ∷ []) ≡ dropped_twenty ++ (48 ∷ 10 ∷ [])
unfolding decimal_in decimal last_line lines_from written is_digit all_digits worth length_field spells_bytes agrees spelling_refusal length_refusal first_of form_refusal lower lowered uppers lowered_line fate fate_words report_line
no_digit = refl

-- no text: no line, and so the words say
pub nothing : tally_words (tallied []) ≡ (48 ∷ 32 ∷ 108 ∷ 105 ∷ 110 ∷ 101 ∷ 115 ∷ 58 ∷ 32 ∷ []) ++ (48 ∷ 32 ∷ 107 ∷ 101 ∷ 112 ∷ 116 ∷ 44 ∷ 32 ∷ []) ++ (48 ∷ 32 ∷ 108 ∷ 111 ∷ 119 ∷ 101 ∷ 114 ∷ 101 ∷ 100 ∷ 44 ∷ 32 ∷ []) ++ (48 ∷ 32 ∷ 100 ∷ 114 ∷ 111 ∷ 112 ∷ 112 ∷ 101 ∷ 100 ∷ 10 ∷ [])
unfolding decimal_in decimal last_line lines_from written kind_line count counted lines_word tally_words
nothing = refl

-- a frame of no payload whose first digit is `A`: copied with it lowered
abbrev rest_of_frame : List ℕ
rest_of_frame = replicate 275 48

pub one_upper : salvaged (65 ∷ rest_of_frame ++ (10 ∷ [])) ≡ 97 ∷ rest_of_frame ++ (10 ∷ [])
unfolding last_line lines_from written is_digit all_digits worth length_field spells_bytes agrees spelling_refusal length_refusal first_of form_refusal lower lowered lowered_line fate kept_of salvaged_as salvaged_line
one_upper = refl

-- `1 lowered 1`
pub one_turned : salvage_report (65 ∷ rest_of_frame ++ (10 ∷ [])) ≡ 49 ∷ 32 ∷ 108 ∷ 111 ∷ 119 ∷ 101 ∷ 114 ∷ 101 ∷ 100 ∷ 32 ∷ 49 ∷ 10 ∷ []
unfolding decimal_in decimal last_line lines_from written is_digit all_digits worth length_field spells_bytes agrees spelling_refusal length_refusal first_of form_refusal lower lowered uppers lowered_line fate fate_words report_line
one_turned = refl

-- Document 02's book of one line whose payload is the single byte 00, and more books: one table, and one statement about the definitions.
use Rattle.std.specs.Prelude.{ℕ, ◌+◌, ◌/◌, ◌%◌, ◌≡◌, refl, Bool, true, false, ◌&&◌, cond, List, [], ◌∷◌, ◌++◌, eqb, ltb, length, replicate}
use Rattle.std.specs.Int.Count.{count_leading_zeros}
use Rattle.tables.specs.Tables.{range_tab_lps, trans_idx_mps, trans_idx_lps, lps_of, on_mps, on_lps}
use Rattle.bins.specs.Bits.{bits}
use Rattle.bins.specs.Engine.{fetched, started, split_by, split, decided, bypassed}
use Rattle.bins.specs.Syn.{◌>>=◌, run, by_engine}
use Rattle.bins.specs.Readers.{bits_s, ones_s, prefix_s}
use Rattle.cabac.specs.Contexts.{slope_raised, pre_raised, initial, initial_all}
use Rattle.cabac.specs.Numbers.{◌or_else◌, unless, payload_refusal, possible, state_refusal, context_refusal, count_refusal, offset_refusal, ended_refusal}
use Rattle.cabac.specs.Entries.{start, decision, bypass_bits}
use Rattle.hevc_residual.specs.Scan.{scan_order, number_in, sig_ctx}
use Rattle.hevc_residual.specs.Wanted.{spot_in, wanted_in, down_from}
use Rattle.hevc_residual.specs.Head.{least_of, last_prefix, groups_s, head_s}
use Rattle.hevc_residual.specs.Remainder.{remainder_s}
use Rattle.hevc_residual.specs.Residual.{residual}
use Rattle.hevc_residual.specs.Numbers.{within_limits, parameter_refusal, contexts_refusal, statistic_refusal, statistics_refusal}
use Rattle.hevc_residual.specs.Entries.{read_by_engine, read_payload_by, read_payload}
use Rattle.text_fields.specs.Spelled.{digit_of, octet_from, octet_of, octet_then, octets_of}
use Rattle.text_room.specs.Decimal.{decimal_in, decimal}
use Rattle.book_lines.specs.Lines.{last_line, lines_from, written}
use Rattle.book_lines.specs.Form.{is_digit, all_digits, worth, length_field, spells_bytes, agrees, spelling_refusal, length_refusal, first_of, form_refusal}
use Rattle.frame.specs.Frame.{params_of, flags_refusal}
use Rattle.frame.specs.Verdict.{read_verdict, started_verdict, verdict_by, checks_of, verdict}
use Rattle.book_answers.specs.Answers.{judged_by, judged, ok_words, no_words, verdict_words, answer_line, answers}

-- bytes as a line spells them
hexes : List ℕ → List ℕ
hexes [] = []
hexes (b ∷ l) = cond (ltb (b / 16) 10) (48 + b / 16) (87 + b / 16) ∷ cond (ltb (b % 16) 10) (48 + b % 16) (87 + b % 16) ∷ hexes l

-- 4x4 luma, depth 8, QP 26, no hiding, 130 values 154; scan and payload are given
frame : ℕ → List ℕ → List ℕ
unfolding hexes
frame scan payload =
    hexes ((2 ∷ 1 ∷ scan ∷ 8 ∷ 26 ∷ 0 ∷ 0 ∷ length payload ∷ []) ++ replicate 130 154 ++ payload)

abbrev feed : List ℕ
feed = 10 ∷ []

pub record Case : Type 0 where
  pub book : List ℕ
  pub answer : List ℕ

-- THE marked case: `1 no 1`
marked : Case
unfolding frame
marked = record { book = frame 0 (0x00 ∷ []) ++ feed; answer = 49 ∷ 32 ∷ 110 ∷ 111 ∷ 32 ∷ 49 ∷ 10 ∷ [] }

-- payload fe80: `1 ok 1 0`
one_level : Case
unfolding frame
one_level = record { book = frame 0 (0xfe ∷ 0x80 ∷ []) ++ feed; answer = 49 ∷ 32 ∷ 111 ∷ 107 ∷ 32 ∷ 49 ∷ 32 ∷ 48 ∷ 10 ∷ [] }

-- payload 7500: `1 ok 1 1`
past_the_end : Case
unfolding frame
past_the_end = record { book = frame 0 (0x75 ∷ 0x00 ∷ []) ++ feed; answer = 49 ∷ 32 ∷ 111 ∷ 107 ∷ 32 ∷ 49 ∷ 32 ∷ 49 ∷ 10 ∷ [] }

-- fe80 without a line feed: `1 no 20`
unfinished : Case
unfolding frame
unfinished = record { book = frame 0 (0xfe ∷ 0x80 ∷ []); answer = 49 ∷ 32 ∷ 110 ∷ 111 ∷ 32 ∷ 50 ∷ 48 ∷ 10 ∷ [] }

-- ff80, the same with scan 3, an empty line, `abc`: `1 no 5`, `2 no 4`, `3 no 21`, `4 no 20`
in_order : Case
unfolding frame
in_order = record { book = frame 0 (0xff ∷ 0x80 ∷ []) ++ feed ++ frame 3 (0xff ∷ 0x80 ∷ []) ++ feed ++ feed ++ (97 ∷ 98 ∷ 99 ∷ 10 ∷ []); answer = 49 ∷ 32 ∷ 110 ∷ 111 ∷ 32 ∷ 53 ∷ 10 ∷ 50 ∷ 32 ∷ 110 ∷ 111 ∷ 32 ∷ 52 ∷ 10 ∷ 51 ∷ 32 ∷ 110 ∷ 111 ∷ 32 ∷ 50 ∷ 49 ∷ 10 ∷ 52 ∷ 32 ∷ 110 ∷ 111 ∷ 32 ∷ 50 ∷ 48 ∷ 10 ∷ [] }

-- no lines, no answers
no_lines : Case
no_lines = record { book = []; answer = [] }

pub table : List Case
unfolding marked one_level past_the_end unfinished in_order no_lines
table = marked ∷ one_level ∷ past_the_end ∷ unfinished ∷ in_order ∷ no_lines ∷ []

-- ---- the test
same : List ℕ → List ℕ → Bool
same [] [] = true
same (a ∷ x) [] = false
same [] (b ∷ y) = false
same (a ∷ x) (b ∷ y) = eqb a b && same x y

pub all_pass : List Case → Bool
unfolding same
all_pass [] = true
all_pass (c ∷ cs) = same (answers c.book) c.answer && all_pass cs

-- the statement
pub marked_cases : all_pass table ≡ true
unfolding all_pass table bits range_tab_lps trans_idx_mps trans_idx_lps lps_of on_mps on_lps fetched started split_by split decided bypassed slope_raised pre_raised initial initial_all count_leading_zeros ◌>>=◌ run by_engine bits_s ones_s prefix_s ◌or_else◌ unless payload_refusal possible state_refusal context_refusal count_refusal offset_refusal ended_refusal start decision bypass_bits scan_order number_in sig_ctx spot_in wanted_in down_from least_of last_prefix groups_s head_s remainder_s residual within_limits parameter_refusal contexts_refusal statistic_refusal statistics_refusal read_by_engine read_payload_by read_payload digit_of octet_from octet_of octet_then octets_of decimal_in decimal last_line lines_from written is_digit all_digits worth length_field spells_bytes agrees spelling_refusal length_refusal first_of form_refusal params_of flags_refusal read_verdict started_verdict verdict_by checks_of verdict judged_by judged ok_words no_words verdict_words answer_line
marked_cases = refl

-- Laws of the answers: however the book is cut; the payload of a frame is as long as its field says. Assumes nothing.
use Rattle.std.specs.Prelude.{ℕ, zero, suc, ◌+◌, ◌*◌, ◌-◌, ◌/◌, ◌%◌, ◌≤◌, ◌<◌, ◌≡◌, refl, Bool, true, false, cond, ◌&&◌, ◌||◌, List, [], ◌∷◌, ◌++◌, ◌⊎◌, leb, eqb, length, take, drop, get_or, Some, Option, Err}
use Rattle.std.proofs.Common.{arith, sym, subst, ◌∙◌, ⊎_elim, length-drop}
use Rattle.std.proofs.Math.Path.{ap}
use borrow.Author.Tests.{leb-true, le-leb, lt-leb, eqb-true}
use Rattle.text_fields.specs.Spelled.{digit_of, octet_from, octet_of, octet_then, octets_of}
use Rattle.text_fields.specs.SpelledLaws.{digit_decimal, digit_letter}
use Rattle.text_room.specs.Decimal.{decimal}
use Rattle.book_lines.specs.Lines.{Line, line_feed}
use Rattle.book_lines.specs.Form.{most_digits, front_digits, is_digit, all_digits, worth, length_field, spells_bytes, agrees, form_refusal}
use Rattle.book_lines.specs.FormLaws.{form_long, clips_by, and_left, and_right, Keeps, keeps, keeps_digits, digit_cases}
use Rattle.book_lines.specs.Steps.{begun, pieces_out, joined}
use Rattle.book_lines.specs.LineLaws.{Clips, cut}
use Rattle.frame.specs.Frame.{payload_of, byte_of}
use Rattle.book_answers.specs.Answers.{verdict_words, judged_by, judged, answer_line, answers, outcome, outcome_line, counted, no_frames, tallied}

-- ---- THE streaming laws: however the book is cut
pub answer_clips : Clips answer_line
unfolding answer_line judged judged_by
answer_clips =
    clips_by answer_line (λ (n : ℕ). decimal n ++ (verdict_words (Err 22) ++ (line_feed ∷ [])))
    (λ (n : ℕ) (l : Line) (h : most_digits < length l.text). ap (λ (k : ℕ). decimal n ++ (verdict_words (judged_by k l.text) ++ (line_feed ∷ []))) (form_long l h))

pub outcome_clips : Clips outcome_line
unfolding outcome_line judged judged_by
outcome_clips =
    clips_by outcome_line (λ (n : ℕ). 22 ∷ [])
    (λ (n : ℕ) (l : Line) (h : most_digits < length l.text). ap (λ (k : ℕ). outcome (judged_by k l.text) ∷ []) (form_long l h))

pub answers_cut : (cs : List (List ℕ)) → pieces_out answer_line begun cs ≡ answers (joined cs)
answers_cut = cut answer_line answer_clips

pub tallied_cut : (cs : List (List ℕ)) → counted no_frames (pieces_out outcome_line begun cs) ≡ tallied (joined cs)
tallied_cut cs = ap (counted no_frames) (cut outcome_line outcome_clips cs)

-- ---- digits throughout spell half as many bytes, each by two of them
digit_worth : (b : ℕ) → is_digit b ≡ true → digit_of b ≡ Some (worth b)
unfolding worth
digit_worth b e =
    ⊎_elim
    (λ w. sym (digit_decimal b w.0 w.1) ∙ ap (λ (t : Bool). Some (cond t (b - 48) (b - 87))) (sym (le-leb b 57 w.1)))
    (λ w. sym (digit_letter b w.0 w.1) ∙ ap (λ (t : Bool). Some (cond t (b - 48) (b - 87))) (sym (lt-leb b 57 (omega arith))))
    (digit_cases b e)

octet_worth : (h l : ℕ) → is_digit h ≡ true → is_digit l ≡ true → octet_of h l ≡ Some (worth h * 16 + worth l)
unfolding octet_of octet_from
octet_worth h l p q =
    ap (λ (x : Option ℕ). octet_from x (digit_of l)) (digit_worth h p) ∙ ap (λ (x : Option ℕ). octet_from (Some (worth h)) x) (digit_worth l q)

module _ (h b : ℕ) (l : List ℕ) (e : all_digits (h ∷ b ∷ l) ≡ true) where
  rest_digits : all_digits l ≡ true
  unfolding all_digits
  rest_digits = and_right (is_digit b) (all_digits l) (and_right (is_digit h) (is_digit b && all_digits l) e)

  pub octets_cons : octets_of (h ∷ b ∷ l) ≡ (worth h * 16 + worth b) ∷ octets_of l
  unfolding octets_of octet_then all_digits
  octets_cons =
      ap (λ (x : Option ℕ). octet_then x (octets_of l))
      (octet_worth h b (and_left (is_digit h) (is_digit b && all_digits l) e) (and_left (is_digit b) (all_digits l) (and_right (is_digit h) (is_digit b && all_digits l) e)))

pub octets_half : (l : List ℕ) → all_digits l ≡ true → length l % 2 ≡ 0 → 2 * length (octets_of l) ≡ length l
unfolding octets_of
octets_half [] e p = refl
octets_half (h ∷ []) e p = absurd (omega arith)
octets_half (h ∷ b ∷ l) e p =
    let i = octets_half l (rest_digits h b l e) (omega arith) in
    omega (arith, ap length (octets_cons h b l e))

pub octets_at : (l : List ℕ) (i : ℕ) → all_digits l ≡ true → 2 * i + 1 < length l → get_or (octets_of l) i 0 ≡ worth (get_or l (2 * i) 0) * 16 + worth (get_or l (2 * i + 1) 0)
octets_at [] i e h = absurd (omega arith)
octets_at (a ∷ []) i e h = absurd (omega arith)
octets_at (a ∷ b ∷ l) zero e h = ap (λ (x : List ℕ). get_or x 0 0) (octets_cons a b l e)
octets_at (a ∷ b ∷ l) (suc i) e h =
    let p : 2 * suc i ≡ suc (suc (2 * i)) = omega arith in
    let q : 2 * suc i + 1 ≡ suc (suc (2 * i + 1)) = omega arith in
    ap (λ (x : List ℕ). get_or x (suc i) 0) (octets_cons a b l e)
    ∙ octets_at l i (rest_digits a b l e) (omega arith)
    ∙ ap (λ (n : ℕ). worth (get_or (a ∷ b ∷ l) n 0) * 16 + worth (get_or l (2 * i + 1) 0)) (sym p)
    ∙ ap (λ (n : ℕ). worth (get_or (a ∷ b ∷ l) (2 * suc i) 0) * 16 + worth (get_or (a ∷ b ∷ l) n 0)) (sym q)

-- ---- a line that keeps the form
module _ (l : Line) (k : Keeps l) where
  pub keeps_even : length l.text % 2 ≡ 0
  unfolding spells_bytes
  keeps_even =
      eqb-true (length l.text % 2) 0
      (and_left (eqb (length l.text % 2) 0) l.finished (and_right (all_digits l.text) (eqb (length l.text % 2) 0 && l.finished) k.spells))

  pub keeps_long : front_digits ≤ length l.text
  unfolding agrees
  keeps_long =
      leb-true front_digits (length l.text)
      (and_left (leb front_digits (length l.text)) (eqb (length l.text) (front_digits + 2 * length_field l.text)) k.agree)

  keeps_length : length l.text ≡ front_digits + 2 * length_field l.text
  unfolding agrees
  keeps_length =
      eqb-true (length l.text) (front_digits + 2 * length_field l.text)
      (and_right (leb front_digits (length l.text)) (eqb (length l.text) (front_digits + 2 * length_field l.text)) k.agree)

  pub keeps_half : 2 * length (octets_of l.text) ≡ length l.text
  keeps_half = octets_half l.text (keeps_digits l k) keeps_even

-- the payload is as long as bytes 6 and 7 of the frame say, the high one first
pub payload_length : (l : Line) → form_refusal l ≡ 0 → let bytes = octets_of l.text in length (payload_of bytes) ≡ byte_of bytes 6 * 256 + byte_of bytes 7
unfolding length_field
payload_length l e =
    let k = keeps l e in
    let d = keeps_digits l k in
    let n = keeps_long l k in
    omega (
      arith,
      octets_at l.text 6 d (omega arith),
      octets_at l.text 7 d (omega arith),
      keeps_length l k,
      keeps_half l k,
      length-drop 138 (octets_of l.text),
    )

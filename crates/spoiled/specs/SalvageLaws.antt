-- Laws of salvage. What comes out is a sound book; salvaged again it is the same, every line kept; a sound book comes out as it is; each line that
-- comes out is a line that went in, lowered, in order, none twice, and each that does not fails the form even lowered. Assumes nothing.
use Rattle.std.specs.Prelude.{ℕ, zero, suc, ◌+◌, ◌≤◌, ◌<◌, ◌≡◌, refl, Bool, true, false, cond, eqb, length}
use Rattle.std.proofs.Common.{arith, sym, subst, ◌∙◌, ⊎_elim, length-append, eqb-true}
use Rattle.std.proofs.Math.Path.{ap}
use mathlib.Core.List.{List, [], ◌∷◌, ◌++◌, append_assoc, append-nil}
use Rattle.text_fields.specs.SpelledLaws.{both}
use Rattle.text_room.specs.Decimal.{decimal}
use Rattle.book_lines.specs.Lines.{Line, line_feed, last_line, lines_from, lines, written, program}
use Rattle.book_lines.specs.Steps.{Reading, begun, end_out, pieces_out, joined}
use Rattle.book_lines.specs.Form.{most_digits, is_digit, all_digits, form_refusal}
use Rattle.spoiled.specs.Salvage.{is_upper, lower, lowered, uppers, lowered_line, fate, kept_of, salvaged_as, salvaged_line, salvaged, kept_word, fate_words, report_line, salvage_report, kind_of, kind_line, count, counted, no_lines, tallied}
use Rattle.book_lines.specs.LineLaws.{Clips, lines_end, lines_more, cut}
use Rattle.book_lines.specs.FormLaws.{form_long, clips_by, and_left, and_right, Keeps, keeps, keeps_digits, keeps_finished, keeps_ended, digit_cases, digits_line}

-- ---- what is read off these laws
-- every line keeps the form: a sound book
pub data Sound : List Line → Type 0 where
  none : Sound []
  more : {l : Line} {ls : List Line} → form_refusal l ≡ 0 → Sound ls → Sound (l ∷ ls)

-- the lines that come out of those that went in
pub data OutOf : List Line → List Line → Type 0 where
  none : OutOf [] []
  copied : {l : Line} {out ls : List Line} → form_refusal (lowered_line l) ≡ 0 → OutOf out ls → OutOf (lowered_line l ∷ out) (l ∷ ls)
  dropped : {l : Line} {out ls : List Line} → (form_refusal (lowered_line l) ≡ 0 → ⊥) → OutOf out ls → OutOf out (l ∷ ls)

-- the list of a sound book
unfoldable pub kept_line : ℕ → Line → List ℕ
kept_line n l = decimal n ++ (kept_word ++ (line_feed ∷ []))

-- ---- lowering
pub length_lowered : (l : List ℕ) → length (lowered l) ≡ length l
unfolding lowered
length_lowered [] = refl
length_lowered (b ∷ l) = ap suc (length_lowered l)

digit_upper : (b : ℕ) → is_digit b ≡ true → is_upper b ≡ false
digit_upper b e = go (is_upper b) refl
  where
    go : (t : Bool) → is_upper b ≡ t → is_upper b ≡ false
    go true q = let h = both 65 70 b q in absurd (⊎_elim (λ w. omega arith) (λ w. omega arith) (digit_cases b e))
    go false q = q

lowered_digits : (l : List ℕ) → all_digits l ≡ true → lowered l ≡ l
unfolding lowered lower all_digits
lowered_digits [] e = refl
lowered_digits (b ∷ l) e =
    ap (λ (t : Bool). cond t (b + 32) b ∷ lowered l) (digit_upper b (and_left (is_digit b) (all_digits l) e))
    ∙ ap (λ (x : List ℕ). b ∷ x) (lowered_digits l (and_right (is_digit b) (all_digits l) e))

uppers_digits : (l : List ℕ) → all_digits l ≡ true → uppers l ≡ 0
unfolding uppers all_digits
uppers_digits [] e = refl
uppers_digits (b ∷ l) e =
    ap (λ (t : Bool). cond t 1 0 + uppers l) (digit_upper b (and_left (is_digit b) (all_digits l) e))
    ∙ ap (λ (x : ℕ). 0 + x) (uppers_digits l (and_right (is_digit b) (all_digits l) e))

lowered_keeps : (l : Line) → Keeps l → lowered_line l ≡ l
unfolding lowered_line
lowered_keeps l k = ap (λ (x : List ℕ). record { text = x; finished = l.finished }) (lowered_digits l.text (keeps_digits l k))

-- ---- a longer line
fate_long : (l : Line) → most_digits < length l.text → fate l ≡ 22
unfolding fate lowered_line
fate_long l h = form_long (lowered_line l) (omega (arith, length_lowered l.text))

pub salvaged_clips : Clips salvaged_line
unfolding salvaged_line salvaged_as kept_of
salvaged_clips =
    clips_by salvaged_line (λ (n : ℕ). []) (λ (n : ℕ) (l : Line) (h : most_digits < length l.text). ap (λ (k : ℕ). salvaged_as k (lowered l.text)) (fate_long l h))

pub report_clips : Clips report_line
unfolding report_line fate_words
report_clips =
    clips_by report_line (λ (n : ℕ). decimal n ++ (fate_words 22 0 ++ (line_feed ∷ [])))
    (λ (n : ℕ) (l : Line) (h : most_digits < length l.text). ap (λ (k : ℕ). decimal n ++ (fate_words k (uppers l.text) ++ (line_feed ∷ []))) (fate_long l h))

pub kind_clips : Clips kind_line
unfolding kind_line kind_of
kind_clips =
    clips_by kind_line (λ (n : ℕ). 2 ∷ []) (λ (n : ℕ) (l : Line) (h : most_digits < length l.text). ap (λ (k : ℕ). kind_of k (uppers l.text) ∷ []) (fate_long l h))

-- ---- THE streaming laws: however the text is cut
pub salvaged_cut : (cs : List (List ℕ)) → pieces_out salvaged_line begun cs ≡ salvaged (joined cs)
salvaged_cut = cut salvaged_line salvaged_clips

pub report_cut : (cs : List (List ℕ)) → pieces_out report_line begun cs ≡ salvage_report (joined cs)
report_cut = cut report_line report_clips

pub tallied_cut : (cs : List (List ℕ)) → counted no_lines (pieces_out kind_line begun cs) ≡ tallied (joined cs)
tallied_cut cs = ap (counted no_lines) (cut kind_line kind_clips cs)

-- ---- a text is its lines, one after the other
unfoldable feed : Bool → List ℕ
feed true = line_feed ∷ []
feed false = []

unfoldable texts : List Line → List ℕ
unfolding feed
texts [] = []
texts (l ∷ ls) = (l.text ++ feed l.finished) ++ texts ls

texts_from : (h s : List ℕ) → texts (lines_from h s) ≡ h ++ s
unfolding texts lines_from last_line
texts_from [] [] = refl
texts_from (b ∷ h) [] = append-nil ((b ∷ h) ++ [])
texts_from h (b ∷ s) = go (eqb b line_feed) refl (texts_from [] s) (texts_from (h ++ (b ∷ [])) s)
  where
    go : (t : Bool) → eqb b line_feed ≡ t → texts (lines_from [] s) ≡ s → texts (lines_from (h ++ (b ∷ [])) s) ≡ (h ++ (b ∷ [])) ++ s
        → texts (lines_from h (b ∷ s)) ≡ h ++ (b ∷ s)
    go true q i j =
        let e : b ≡ line_feed = eqb-true b line_feed q in
        ap texts (lines_end b h s q)
        ∙ ap (λ (x : List ℕ). (h ++ (line_feed ∷ [])) ++ x) i
        ∙ append_assoc h (line_feed ∷ []) s
        ∙ ap (λ (x : ℕ). h ++ (x ∷ s)) (sym e)
    go false q i j = ap texts (lines_more b h s q) ∙ j ∙ append_assoc h (b ∷ []) s

-- ---- a line that is copied, and one that is not
module _ (n : ℕ) (l : Line) where
  copied_is : fate l ≡ 0 → salvaged_line n l ≡ lowered l.text ++ (line_feed ∷ [])
  unfolding salvaged_line salvaged_as kept_of
  copied_is e = ap (λ (k : ℕ). salvaged_as k (lowered l.text)) e

  dropped_is : (m : ℕ) → fate l ≡ suc m → salvaged_line n l ≡ []
  unfolding salvaged_line salvaged_as kept_of
  dropped_is m e = ap (λ (k : ℕ). salvaged_as k (lowered l.text)) e

fate_keeps : (l : Line) → fate l ≡ 0 → Keeps (lowered_line l)
unfolding fate
fate_keeps l e = keeps (lowered_line l) e

fate_form : (l : Line) (k : ℕ) → fate l ≡ k → form_refusal (lowered_line l) ≡ k
unfolding fate
fate_form l k e = e

lowered_finished : (l : Line) → (lowered_line l).finished ≡ true → l.finished ≡ true
unfolding lowered_line
lowered_finished l e = e

module _ (n : ℕ) (l : Line) (s : List ℕ) where
  lines_copied : fate l ≡ 0 → lines_from [] (salvaged_line n l ++ s) ≡ lowered_line l ∷ lines_from [] s
  unfolding lowered_line
  lines_copied e =
      let k = fate_keeps l e in
      ap (λ (x : List ℕ). lines_from [] (x ++ s)) (copied_is n l e)
      ∙ ap (lines_from []) (append_assoc (lowered l.text) (line_feed ∷ []) s)
      ∙ digits_line [] (lowered l.text) s (keeps_digits (lowered_line l) k)
      ∙ ap (λ (x : Line). x ∷ lines_from [] s) (sym (keeps_ended (lowered_line l) k))

  lines_dropped : (m : ℕ) → fate l ≡ suc m → lines_from [] (salvaged_line n l ++ s) ≡ lines_from [] s
  lines_dropped m e = ap (λ (x : List ℕ). lines_from [] (x ++ s)) (dropped_is n l m e)

-- ---- the lines of what comes out
out_of : (n : ℕ) (ls : List Line) → OutOf (lines (written salvaged_line n ls)) ls
unfolding written lines_from last_line
out_of n [] = OutOf.none
out_of n (l ∷ ls) = go (fate l) refl (out_of (suc n) ls)
  where
    s : List ℕ
    s = written salvaged_line (suc n) ls

    go : (k : ℕ) → fate l ≡ k → OutOf (lines s) ls → OutOf (lines (salvaged_line n l ++ s)) (l ∷ ls)
    go zero e i = subst (λ (x : List Line). OutOf x (l ∷ ls)) (sym (lines_copied n l s e)) (OutOf.copied (fate_form l 0 e) i)
    go (suc m) e i =
        subst (λ (x : List Line). OutOf x (l ∷ ls)) (sym (lines_dropped n l s m e))
        (OutOf.dropped (λ (z : form_refusal (lowered_line l) ≡ 0). let y : suc m ≡ 0 = sym (fate_form l (suc m) e) ∙ z in omega arith) i)

-- THE law of the lines: each line that comes out is one that went in, lowered, in order; each other fails the form even lowered
pub salvaged_out_of : (s : List ℕ) → OutOf (lines (salvaged s)) (lines s)
salvaged_out_of s = out_of 1 (lines s)

out_sound : {out ls : List Line} → OutOf out ls → Sound out
out_sound OutOf.none = Sound.none
out_sound (OutOf.copied e o) = Sound.more e (out_sound o)
out_sound (OutOf.dropped e o) = out_sound o

-- what comes out is a sound book
pub salvaged_sound : (s : List ℕ) → Sound (lines (salvaged s))
salvaged_sound s = out_sound (salvaged_out_of s)

-- ---- a sound book
fate_sound : (l : Line) → form_refusal l ≡ 0 → fate l ≡ 0
unfolding fate
fate_sound l e = ap form_refusal (lowered_keeps l (keeps l e)) ∙ e

line_sound : (n : ℕ) (l : Line) → form_refusal l ≡ 0 → salvaged_line n l ≡ l.text ++ feed l.finished
unfolding feed
line_sound n l e =
    let k = keeps l e in
    copied_is n l (fate_sound l e)
    ∙ ap (λ (x : List ℕ). x ++ (line_feed ∷ [])) (lowered_digits l.text (keeps_digits l k))
    ∙ ap (λ (t : Bool). l.text ++ feed t) (sym (keeps_finished l k))

sound_texts : (n : ℕ) {ls : List Line} → Sound ls → written salvaged_line n ls ≡ texts ls
unfolding written texts
sound_texts n Sound.none = refl
sound_texts n (Sound.more {l} {ls} e o) =
    ap (λ (x : List ℕ). x ++ written salvaged_line (suc n) ls) (line_sound n l e) ∙ ap (λ (x : List ℕ). (l.text ++ feed l.finished) ++ x) (sound_texts (suc n) o)

-- a sound book comes out as it is
pub sound_same : (s : List ℕ) → Sound (lines s) → salvaged s ≡ s
sound_same s o = sound_texts 1 o ∙ texts_from [] s

-- salvage of what was salvaged changes nothing
pub salvaged_twice : (s : List ℕ) → salvaged (salvaged s) ≡ salvaged s
salvaged_twice s = sound_same (salvaged s) (salvaged_sound s)

report_sound : (n : ℕ) (l : Line) → form_refusal l ≡ 0 → report_line n l ≡ kept_line n l
unfolding report_line kept_line fate_words
report_sound n l e =
    ap (λ (k : ℕ). decimal n ++ (fate_words k (uppers l.text) ++ (line_feed ∷ []))) (fate_sound l e)
    ∙ ap (λ (k : ℕ). decimal n ++ (fate_words 0 k ++ (line_feed ∷ []))) (uppers_digits l.text (keeps_digits l (keeps l e)))

all_kept : (n : ℕ) {ls : List Line} → Sound ls → written report_line n ls ≡ written kept_line n ls
unfolding written
all_kept n Sound.none = refl
all_kept n (Sound.more {l} {ls} e o) =
    ap (λ (x : List ℕ). x ++ written report_line (suc n) ls) (report_sound n l e) ∙ ap (λ (x : List ℕ). kept_line n l ++ x) (all_kept (suc n) o)

-- every line of a sound book is reported as kept, so every line of what came out
pub sound_kept : (s : List ℕ) → Sound (lines s) → salvage_report s ≡ program kept_line s
sound_kept s o = all_kept 1 o

pub salvaged_kept : (s : List ℕ) → salvage_report (salvaged s) ≡ program kept_line (salvaged s)
salvaged_kept s = sound_kept (salvaged s) (salvaged_sound s)

-- and none is counted as lowered or dropped
kind_sound : (n : ℕ) (l : Line) → form_refusal l ≡ 0 → kind_line n l ≡ 0 ∷ []
unfolding kind_line kind_of
kind_sound n l e =
    ap (λ (k : ℕ). kind_of k (uppers l.text) ∷ []) (fate_sound l e)
    ∙ ap (λ (k : ℕ). kind_of 0 k ∷ []) (uppers_digits l.text (keeps_digits l (keeps l e)))

none_else : (k n : ℕ) {ls : List Line} → eqb 0 k ≡ false → Sound ls → count k (written kind_line n ls) ≡ 0
unfolding written count
none_else k n q Sound.none = refl
none_else k n q (Sound.more {l} {ls} e o) =
    ap (λ (x : List ℕ). count k (x ++ written kind_line (suc n) ls)) (kind_sound n l e)
    ∙ ap (λ (t : Bool). cond t 1 0 + count k (written kind_line (suc n) ls)) q
    ∙ ap (λ (x : ℕ). 0 + x) (none_else k (suc n) q o)

pub sound_tallied : (s : List ℕ) → Sound (lines s) → ((tallied s).lowered ≡ 0) × ((tallied s).dropped ≡ 0)
unfolding counted
sound_tallied s o = (ap (λ (x : ℕ). 0 + x) (none_else 1 1 refl o), ap (λ (x : ℕ). 0 + x) (none_else 2 1 refl o))

-- ---- an unfinished line gives nothing: at the end of the text nothing is left to write into the book
open_dropped : (n : ℕ) (l : Line) → l.finished ≡ false → salvaged_line n l ≡ []
open_dropped n l h = go (fate l) refl
  where
    go : (k : ℕ) → fate l ≡ k → salvaged_line n l ≡ []
    go zero e =
        let f : true ≡ false = sym (lowered_finished l (keeps_finished (lowered_line l) (fate_keeps l e))) ∙ h in
        let y : ◌≡◌ {A = ℕ} 0 1 = cc in absurd (omega arith)
    go (suc m) e = dropped_is n l m e

pub book_ended : (r : Reading) → end_out salvaged_line r ≡ []
unfolding end_out last_line written
book_ended r = go r.held
  where
    go : (h : List ℕ) → written salvaged_line r.number (last_line h) ≡ []
    go [] = refl
    go (b ∷ h) =
        append-nil (salvaged_line r.number (record { text = b ∷ h; finished = false }))
        ∙ open_dropped r.number (record { text = b ∷ h; finished = false }) refl

-- ---- never longer
line_longer : (n : ℕ) (l : Line) → length (salvaged_line n l) ≤ length (l.text ++ feed l.finished)
unfolding feed
line_longer n l = go (fate l) refl
  where
    go : (k : ℕ) → fate l ≡ k → length (salvaged_line n l) ≤ length (l.text ++ feed l.finished)
    go zero e =
        let f : l.finished ≡ true = lowered_finished l (keeps_finished (lowered_line l) (fate_keeps l e)) in
        let q : length (salvaged_line n l) ≡ length l.text + 1 =
        ap length (copied_is n l e) ∙ length-append (lowered l.text) (line_feed ∷ []) ∙ ap (λ (k : ℕ). k + 1) (length_lowered l.text) in
        let r : length (l.text ++ feed l.finished) ≡ length l.text + 1 =
        ap (λ (t : Bool). length (l.text ++ feed t)) f ∙ length-append l.text (line_feed ∷ []) in
        omega arith
    go (suc m) e = let q : length (salvaged_line n l) ≡ 0 = ap length (dropped_is n l m e) in omega arith

longer : (n : ℕ) (ls : List Line) → length (written salvaged_line n ls) ≤ length (texts ls)
unfolding written texts
longer n [] = omega arith
longer n (l ∷ ls) =
    let i = longer (suc n) ls in
    omega (
      arith,
      line_longer n l,
      length-append (salvaged_line n l) (written salvaged_line (suc n) ls),
      length-append (l.text ++ feed l.finished) (texts ls),
    )

pub salvaged_longer : (s : List ℕ) → length (salvaged s) ≤ length s
salvaged_longer s = omega (arith, longer 1 (lines s), ap length (texts_from [] s))

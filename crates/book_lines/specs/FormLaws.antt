-- Laws of the form. Assumes nothing.
use Rattle.std.specs.Prelude.{ℕ, ◌%◌, ◌≤◌, ◌<◌, ◌≡◌, refl, Bool, true, false, ◌&&◌, ◌||◌, cond, List, [], ◌∷◌, ◌++◌, ◌⊎◌, leb, eqb, length, take}
use Rattle.std.proofs.Common.{arith, sym, ap, ◌∙◌, append_assoc, append-nil, inl, inr, ⊎_elim, length-take, take_all, leb-true, leb-false, ne_eqb}
use Rattle.std.proofs.lemmas.Bool.{lt-leb}
use Rattle.text_fields.specs.Spelled.{within}
use Rattle.text_fields.specs.SpelledLaws.{both}
use Rattle.book_lines.specs.Lines.{Line, ended, line_feed, lines_from}
use Rattle.book_lines.specs.Steps.{most_held}
use Rattle.book_lines.specs.Form.{most_digits, is_digit, all_digits, spells_bytes, agrees, spelling_refusal, length_refusal, first_of, form_refusal}
use Rattle.book_lines.specs.LineLaws.{Clips, lines_end, lines_more}

-- ---- a longer line is 22, whatever it has
pub form_long : (l : Line) → most_digits < length l.text → form_refusal l ≡ 22
unfolding form_refusal first_of
form_long l h = rw (lt-leb (length l.text) most_digits h)

-- what of a longer line says the same of each does not hang on bytes behind the 8,469th
pub clips_by : {A : Type 0} (f : ℕ → Line → List A) (g : ℕ → List A) → ((n : ℕ) (l : Line) → most_digits < length l.text → f n l ≡ g n) → Clips f
unfolding most_held
clips_by f g long n l e = go (leb (length l) most_digits) refl
  where
    go : (t : Bool) → leb (length l) most_digits ≡ t
        → f n (record { text = take most_held l; finished = e }) ≡ f n (record { text = l; finished = e })
    go true q = let h = leb-true (length l) most_digits q in ap (λ (x : List ℕ). f n (record { text = x; finished = e })) (take_all most_held l (omega arith))
    go false q =
        let h = leb-false (length l) most_digits q in
        long n (record { text = take most_held l; finished = e }) (omega (arith, length-take most_held l)) ∙ sym (long n (record { text = l; finished = e }) h)

-- ---- tests
pub and_left : (a b : Bool) → (a && b) ≡ true → a ≡ true
and_left true b h = refl
and_left false b h = h

pub and_right : (a b : Bool) → (a && b) ≡ true → b ≡ true
and_right true b h = h
and_right false b h = absurd (let y : ◌≡◌ {A = ℕ} 0 1 = cc in omega arith)

-- ---- a line that keeps the form
pub record Keeps (l : Line) : Type 0 where
  pub short : length l.text ≤ most_digits
  pub spells : spells_bytes l ≡ true
  pub agree : agrees l.text ≡ true

pub keeps : (l : Line) → form_refusal l ≡ 0 → Keeps l
unfolding form_refusal spelling_refusal length_refusal first_of
keeps l = go (leb (length l.text) most_digits) (spells_bytes l) (agrees l.text) refl refl refl
  where
    go : (a b c : Bool) → leb (length l.text) most_digits ≡ a → spells_bytes l ≡ b → agrees l.text ≡ c
        → first_of (cond a 0 22) (first_of (cond b 0 20) (cond c 0 21)) ≡ 0 → Keeps l
    go true true true p q r e = record { short = leb-true (length l.text) most_digits p; spells = q; agree = r }
    go true true false p q r e = absurd (omega arith)
    go true false c p q r e = absurd (omega arith)
    go false b c p q r e = absurd (omega arith)

module _ (l : Line) (k : Keeps l) where
  pub keeps_digits : all_digits l.text ≡ true
  unfolding spells_bytes
  keeps_digits = and_left (all_digits l.text) (eqb (length l.text % 2) 0 && l.finished) k.spells

  pub keeps_finished : l.finished ≡ true
  unfolding spells_bytes
  keeps_finished =
      and_right (eqb (length l.text % 2) 0) l.finished (and_right (all_digits l.text) (eqb (length l.text % 2) 0 && l.finished) k.spells)

  pub keeps_ended : l ≡ ended l.text
  keeps_ended = ap (λ (e : Bool). record { text = l.text; finished = e }) keeps_finished

-- ---- digits: none is a line feed, none is upper case
pub digit_cases : (b : ℕ) → is_digit b ≡ true → ((48 ≤ b) × (b ≤ 57)) ⊎ ((97 ≤ b) × (b ≤ 102))
unfolding is_digit
digit_cases b e = go (within 48 57 b) refl
  where
    go : (t : Bool) → within 48 57 b ≡ t → ((48 ≤ b) × (b ≤ 57)) ⊎ ((97 ≤ b) × (b ≤ 102))
    go true q = inl (both 48 57 b q)
    go false q = inr (both 97 102 b (ap (λ (t : Bool). t || within 97 102 b) (sym q) ∙ e))

digit_feed : (b : ℕ) → is_digit b ≡ true → eqb b line_feed ≡ false
digit_feed b e = ne_eqb b line_feed (λ q. ⊎_elim (λ w. omega arith) (λ w. omega arith) (digit_cases b e))

pub digits_line : (h l s : List ℕ) → all_digits l ≡ true → lines_from h (l ++ (line_feed ∷ s)) ≡ ended (h ++ l) ∷ lines_from [] s
unfolding all_digits
digits_line h [] s e = lines_end line_feed h s refl ∙ ap (λ (x : List ℕ). ended x ∷ lines_from [] s) (sym (append-nil h))
digits_line h (b ∷ l) s e =
    lines_more b h (l ++ (line_feed ∷ s)) (digit_feed b (and_left (is_digit b) (all_digits l) e))
    ∙ digits_line (h ++ (b ∷ [])) l s (and_right (is_digit b) (all_digits l) e)
    ∙ ap (λ (x : List ℕ). ended x ∷ lines_from [] s) (append_assoc h (b ∷ []) l)

-- Laws of what the exported functions are handed, as the code meets them. Assumes nothing.
use Rattle.std.specs.Prelude.{ℕ, ◌+◌, ◌*◌, ◌/◌, ◌≤◌, ◌<◌, ◌≡◌, refl, Bool, true, false, ◌&&◌, List, [], ◌++◌, leb, ltb, eqb, length, take}
use Rattle.std.proofs.Common.{arith, sym, ◌∙◌, leb-true, leb-false, ltb-true, le-leb, lt-ltb, le-ltb, eq-eqb, ne_eqb, eqb-true}
use Rattle.std.proofs.Math.Path.{ap}
use Rattle.std.proofs.Math.Bool.{cond}
use Rattle.std.proofs.lemmas.Bool.{lt-leb}
use Rattle.book_lines.specs.Lines.{Line}
use Rattle.book_lines.specs.Steps.{Reading, fed_state, fed_out, end_out}
use Rattle.book_lines.specs.FormLaws.{and_left, and_right}
use Rattle.book_answers.specs.Answers.{answer_line, outcome_line, counted}
use Rattle.book_answers.specs.Gave.{Gave}
use Rattle.book_answers.specs.declared.answering.Answering.{Answering}
use Rattle.bulmegart_book.specs.declared.BookAnswer.{BookAnswer}
use Rattle.bulmegart_book.specs.Exported.{sound, handed_refusal, reading_of, refused_by, Fed, Ended}

-- ---- the tests, one after the other
module _ (buffer line held lines room : ℕ) where
  refusal_as : (a : Bool) → sound buffer line held lines ≡ a → cond a (cond (leb (70 * lines) room) 0 12) 4 ≡ handed_refusal buffer line held lines room
  unfolding handed_refusal
  refusal_as a e = ap (λ (t : Bool). cond t (cond (leb (70 * lines) room) 0 12) 4) (sym e)

  pub other_buffer : (buffer ≡ 8469 → ⊥) → 4 ≡ handed_refusal buffer line held lines room
  other_buffer h = refusal_as false (rw (ne_eqb buffer 8469 h))

  pub too_many_held : buffer ≡ 8469 → 8469 < held → 4 ≡ handed_refusal buffer line held lines room
  too_many_held b h = refusal_as false (rw (eq-eqb buffer 8469 b, lt-leb held 8469 h))

  pub no_number_left : buffer ≡ 8469 → held ≤ 8469 → 18446744073709551616 ≤ line + lines → 4 ≡ handed_refusal buffer line held lines room
  no_number_left b h n = refusal_as false (rw (eq-eqb buffer 8469 b, le-leb held 8469 h, le-ltb (line + lines) 18446744073709551616 n))

  is_sound : buffer ≡ 8469 → held ≤ 8469 → line + lines < 18446744073709551616 → sound buffer line held lines ≡ true
  is_sound b h n = rw (eq-eqb buffer 8469 b, le-leb held 8469 h, lt-ltb (line + lines) 18446744073709551616 n)

  pub short_room : buffer ≡ 8469 → held ≤ 8469 → line + lines < 18446744073709551616 → room < 70 * lines → 12 ≡ handed_refusal buffer line held lines room
  short_room b h n r = ap (λ (t : Bool). cond t 0 12) (sym (lt-leb (70 * lines) room r)) ∙ refusal_as true (is_sound b h n)

  pub none_refused : buffer ≡ 8469 → held ≤ 8469 → line + lines < 18446744073709551616 → 70 * lines ≤ room → 0 ≡ handed_refusal buffer line held lines room
  none_refused b h n r = ap (λ (t : Bool). cond t 0 12) (sym (le-leb (70 * lines) room r)) ∙ refusal_as true (is_sound b h n)

-- ---- what is known where none of them is given
pub record Taken (buffer line held lines room : ℕ) : Type 0 where
  pub buffer_is : buffer ≡ 8469
  pub few_held : held ≤ 8469
  pub numbers_left : line + lines < 18446744073709551616
  pub room_enough : 70 * lines ≤ room

pub taken_by : (buffer line held lines room n : ℕ) → n ≡ handed_refusal buffer line held lines room → n ≡ 0 → Taken buffer line held lines room
unfolding handed_refusal
taken_by buffer line held lines room n e z = go (sound buffer line held lines) (leb (70 * lines) room) refl refl (sym e ∙ z)
  where
    go : (a b : Bool) → sound buffer line held lines ≡ a → leb (70 * lines) room ≡ b → ◌≡◌ {A = ℕ} (cond a (cond b 0 12) 4) 0 → Taken buffer line held lines room
    go false b p q w = absurd (omega arith)
    go true false p q w = absurd (omega arith)
    go true true p q w =
        let behind = and_right (eqb buffer 8469) (leb held 8469 && ltb (line + lines) 18446744073709551616) p in
        record {
          buffer_is = eqb-true buffer 8469 (and_left (eqb buffer 8469) (leb held 8469 && ltb (line + lines) 18446744073709551616) p);
          few_held = leb-true held 8469 (and_left (leb held 8469) (ltb (line + lines) 18446744073709551616) behind);
          numbers_left = ltb-true (line + lines) 18446744073709551616 (and_right (leb held 8469) (ltb (line + lines) 18446744073709551616) behind);
          room_enough = leb-true (70 * lines) room q;
        }

-- ---- the same by an answer's own words
gave_front : (g : (ℕ → Line → List ℕ) → List ℕ) (t o o' t' : List ℕ) → o' ≡ o → Gave g [] t o t' → Gave g [] t o' t'
gave_front g t o o' t' e w = record { in_out = e ∙ w.in_out; in_tally = w.in_tally }

module _ (piece buffer : List ℕ) (line held : ℕ) (tally room buffer' tally' room' : List ℕ) (n : ℕ) (a : Answering) (r : BookAnswer)
    (e : n ≡ handed_refusal (length buffer) line held (length piece) (length room)) where
  pub fed_taken : n ≡ 0
      → record { number = a.line.number; held = take a.line.held buffer' } ≡ fed_state (reading_of buffer line held) piece
      → Gave (λ (f : ℕ → Line → List ℕ). fed_out f (reading_of buffer line held) piece) [] tally (take a.out room') tally'
      → (r.number ≡ 0) × (r.line ≡ a.line.number) × (r.held ≡ a.line.held) × (r.written ≡ a.out)
      → Fed piece buffer line held tally room r buffer' tally' room'
  fed_taken z state gave is =
      Fed.taken (sym e ∙ z) is.0
      (ap (λ (k : ℕ). reading_of buffer' k r.held) is.1 ∙ ap (reading_of buffer' a.line.number) is.2 ∙ state)
      (gave_front _ tally _ _ tally' (ap (λ (k : ℕ). take k room') is.3) gave)

pub fed_refused : (piece buffer : List ℕ) (line held : ℕ) (tally room : List ℕ) (n : ℕ) → n ≡ handed_refusal (length buffer) line held (length piece) (length room) → (n ≡ 0 → ⊥)
    → Fed piece buffer line held tally room (refused_by n line held) buffer tally room
fed_refused piece buffer line held tally room n e h = Fed.refused (λ z. h (e ∙ z)) (ap (λ (k : ℕ). refused_by k line held) e) refl refl refl

module _ (buffer : List ℕ) (line held : ℕ) (tally room tally' room' : List ℕ) (n : ℕ) (a : Answering) (r : BookAnswer)
    (e : n ≡ handed_refusal (length buffer) line held 1 (length room)) where
  pub ended_taken : n ≡ 0
      → Gave (λ (f : ℕ → Line → List ℕ). end_out f (reading_of buffer line held)) [] tally (take a.out room') tally'
      → (r.number ≡ 0) × (r.line ≡ a.line.number) × (r.held ≡ a.line.held) × (r.written ≡ a.out)
      → Ended buffer line held tally room r tally' room'
  ended_taken z gave is = Ended.taken (sym e ∙ z) is.0 (gave_front _ tally _ _ tally' (ap (λ (k : ℕ). take k room') is.3) gave)

pub ended_refused : (buffer : List ℕ) (line held : ℕ) (tally room : List ℕ) (n : ℕ) → n ≡ handed_refusal (length buffer) line held 1 (length room) → (n ≡ 0 → ⊥)
    → Ended buffer line held tally room (refused_by n line held) tally room
ended_refused buffer line held tally room n e h = Ended.refused (λ z. h (e ∙ z)) (ap (λ (k : ℕ). refused_by k line held) e) refl refl

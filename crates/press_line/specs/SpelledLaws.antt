-- Laws of spelled frames: digits throughout, which spell the bytes again; a frame that is as long as it says keeps the form. Assumes nothing.
use Rattle.std.specs.Prelude.{ℕ, ◌+◌, ◌*◌, ◌/◌, ◌%◌, ◌<◌, ◌≡◌, refl, Bool, true, false, cond, leb, length}
use native.Mathlib.Omega.{arith}
use Rattle.std.proofs.Common.{sym, ◌∙◌, leb-true, leb-false}
use Rattle.std.proofs.Math.Path.{ap}
use mathlib.Core.List.{List, [], ◌∷◌}
use Rattle.std.proofs.Math.ListN.{get_or}
use Rattle.text_fields.specs.Spelled.{octets_of}
use Rattle.book_lines.specs.Lines.{ended}
use Rattle.book_lines.specs.Form.{is_digit, all_digits, worth, length_field, form_refusal}
use Rattle.book_lines.specs.CodeLaws.{digit_decimal, digit_letter, worth_decimal, worth_letter, long_none, spelling_right, length_agrees, in_order, first_none}
use Rattle.book_answers.specs.AnswerLaws.{octets_cons, octets_at}
use Rattle.frame.specs.Frame.{byte_of}
use Rattle.press_frame.specs.FrameLong.{Long}
use Rattle.press_line.specs.Spelled.{digit_for, spelled, Octets}

digit_is : (d : ℕ) → d < 16 → is_digit (digit_for d) ≡ true
unfolding digit_for
digit_is d h = go (leb d 9) refl
  where
    go : (t : Bool) → leb d 9 ≡ t → is_digit (cond t (48 + d) (87 + d)) ≡ true
    go true q = let k = leb-true d 9 q in sym (digit_decimal (48 + d) (omega arith) (omega arith))
    go false q = let k = leb-false d 9 q in sym (digit_letter (87 + d) (omega arith) (omega arith))

worth_is : (d : ℕ) → d < 16 → worth (digit_for d) ≡ d
unfolding digit_for
worth_is d h = go (leb d 9) refl
  where
    go : (t : Bool) → leb d 9 ≡ t → worth (cond t (48 + d) (87 + d)) ≡ d
    go true q = let k = leb-true d 9 q in omega (arith, worth_decimal (48 + d) (omega arith))
    go false q = let k = leb-false d 9 q in omega (arith, worth_letter (87 + d) (omega arith))

pub spelled_digits : (l : List ℕ) → Octets l → all_digits (spelled l) ≡ true
unfolding spelled all_digits
spelled_digits [] o = refl
spelled_digits (b ∷ l) o =
    let h = o.0 in
    rw (digit_is (b / 16) (omega arith), digit_is (b % 16) (omega arith), spelled_digits l o.1)

pub spelled_length : (l : List ℕ) → length (spelled l) ≡ 2 * length l
unfolding spelled
spelled_length [] = refl
spelled_length (b ∷ l) = omega (arith, spelled_length l)

pub spelled_octets : (l : List ℕ) → Octets l → octets_of (spelled l) ≡ l
unfolding spelled octets_of
spelled_octets [] o = refl
spelled_octets (b ∷ l) o =
    let h = o.0 in
    let d : all_digits (digit_for (b / 16) ∷ digit_for (b % 16) ∷ spelled l) ≡ true = spelled_digits (b ∷ l) o in
    let w : worth (digit_for (b / 16)) * 16 + worth (digit_for (b % 16)) ≡ b = omega (arith, worth_is (b / 16) (omega arith), worth_is (b % 16) (omega arith)) in
    octets_cons (digit_for (b / 16)) (digit_for (b % 16)) (spelled l) d
    ∙ ap (λ (x : ℕ). x ∷ octets_of (spelled l)) w
    ∙ ap (λ (x : List ℕ). b ∷ x) (spelled_octets l o.1)

module _ (f : List ℕ) (o : Octets f) (k : Long f) where
  field_is : byte_of f 6 * 256 + byte_of f 7 ≡ length_field (spelled f)
  unfolding length_field
  field_is =
      let d = spelled_digits f o in
      let n = spelled_length f in
      let e = spelled_octets f o in
      let long = k.least in
      omega (
        arith,
        octets_at (spelled f) 6 d (omega arith),
        octets_at (spelled f) 7 d (omega arith),
        ap (λ (x : List ℕ). get_or x 6 0) e,
        ap (λ (x : List ℕ). get_or x 7 0) e,
      )

  pub spelled_form : form_refusal (ended (spelled f)) ≡ 0
  spelled_form =
      let n = spelled_length f in
      let least = k.least in
      let most = k.most in
      let field = k.field in
      sym
      (in_order (spelled f) true 0 0 0 0 0 (long_none (spelled f) true (omega arith))
      (spelling_right (spelled f) true true (sym (spelled_digits f o)) refl (omega arith) refl)
      (length_agrees (spelled f) true (byte_of f 6 * 256 + byte_of f 7) (omega arith) field_is (omega arith)) (first_none 0 0 refl) (first_none 0 0 refl))

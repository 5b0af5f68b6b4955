-- Laws as the code meets them: a byte, a line's form, the line that is being read. Assumes nothing.
use Rattle.std.specs.Prelude.{ℕ, zero, suc, ◌+◌, ◌-◌, ◌*◌, ◌%◌, ◌≤◌, ◌<◌, ◌≡◌, refl, Bool, ◌&&◌, cond, leb, eqb, drop, get_or, set}
use Rattle.std.proofs.Common.{arith, add-one, ◌∙◌, drop_of_length-le, take_all, take_at, take-suc}
use Rattle.std.proofs.Math.Path.{sym, ap}
use Rattle.std.proofs.Math.Bool.{true, false}
use mathlib.Core.List.{List, [], ◌∷◌, ◌++◌, append-nil}
use Rattle.std.proofs.Math.ListN.{length, take, length-append}
use Rattle.std.proofs.Math.Seq.{drop-cons, take-suc-set, length-take-le}
use borrow.Author.Tests.{leb-true, le-leb, lt-leb, eq-eqb, ne_eqb}
use Rattle.text_fields.specs.Spelled.{within}
use Rattle.text_fields.specs.SpelledLaws.{inside}
use Rattle.book_lines.specs.Lines.{Line, line_of, ended, line_feed, last_line, written}
use Rattle.book_lines.specs.Form.{most_digits, front_digits, is_digit, all_digits, worth, length_field, spells_bytes, agrees, long_refusal, spelling_refusal, length_refusal, first_of, form_refusal}
use Rattle.book_lines.specs.Steps.{most_held, Reading, reading, begun, first_line, grown, step_state, step_out, fed_state, fed_out, end_out}
use Rattle.book_lines.specs.LineLaws.{out_end, out_none, state_end, state_more, fed_state_lem, fed_out_lem}

pub outside : (low high b : ℕ) → (low ≤ b → b ≤ high → ⊥) → within low high b ≡ false
outside low high b apart = go (leb low b) (leb b high) refl refl
  where
    go : (t u : Bool) → leb low b ≡ t → leb b high ≡ u → within low high b ≡ false
    go true true p q = absurd (apart (leb-true low b p) (leb-true b high q))
    go true false p q = ap (λ (t : Bool). t && leb b high) p ∙ q
    go false u p q = ap (λ (t : Bool). t && leb b high) p

-- ---- a digit
pub digit_decimal : (b : ℕ) → 48 ≤ b → b ≤ 57 → true ≡ is_digit b
unfolding is_digit
digit_decimal b h k = rw (inside 48 57 b h k)

pub digit_letter : (b : ℕ) → 97 ≤ b → b ≤ 102 → true ≡ is_digit b
unfolding is_digit
digit_letter b h k = rw (outside 48 57 b (λ p q. omega arith), inside 97 102 b h k)

pub digit_none : (b : ℕ) → (48 ≤ b → b ≤ 57 → ⊥) → (97 ≤ b → b ≤ 102 → ⊥) → false ≡ is_digit b
unfolding is_digit
digit_none b h k = rw (outside 48 57 b h, outside 97 102 b k)

pub worth_decimal : (b : ℕ) → b ≤ 57 → b - 48 ≡ worth b
unfolding worth
worth_decimal b h = rw (le-leb b 57 h)

pub worth_letter : (b : ℕ) → 57 < b → b - 87 ≡ worth b
unfolding worth
worth_letter b h = rw (lt-leb b 57 h)

-- ---- digits throughout, from a place on
module _ (l : List ℕ) (i : ℕ) where
  pub all_none : (t : Bool) → i < length l → t ≡ is_digit (get_or l i 0) → t ≡ false → false ≡ all_digits (drop i l)
  unfolding all_digits
  all_none t h e q = rw (drop-cons l i 0 h, sym e ∙ q)

  pub all_more : (t : Bool) → i < length l → t ≡ is_digit (get_or l i 0) → t ≡ true → all_digits (drop (i + 1) l) ≡ all_digits (drop i l)
  unfolding all_digits
  all_more t h e q = rw (add-one i, drop-cons l i 0 h, sym e ∙ q)

  pub all_end : length l ≤ i → true ≡ all_digits (drop i l)
  unfolding all_digits
  all_end h = rw (drop_of_length-le l h)

pub length_field_lem : (l : List ℕ) (a b c d : ℕ) → a ≡ worth (get_or l 12 0) → b ≡ worth (get_or l 13 0) → c ≡ worth (get_or l 14 0) → d ≡ worth (get_or l 15 0)
    → ((a * 16 + b) * 16 + c) * 16 + d ≡ length_field l
unfolding length_field
length_field_lem l a b c d p q r s = omega arith

-- ---- the form of a line, test after test
module _ (l : List ℕ) (e : Bool) where
  pub long_more : most_digits < length l → 22 ≡ long_refusal (line_of l e)
  long_more h = rw (lt-leb (length l) most_digits h)

  pub long_none : length l ≤ most_digits → 0 ≡ long_refusal (line_of l e)
  long_none h = rw (le-leb (length l) most_digits h)

  spelling : (a b c : Bool) → all_digits l ≡ a → eqb (length l % 2) 0 ≡ b → e ≡ c → cond (a && (b && c)) 0 20 ≡ spelling_refusal (line_of l e)
  unfolding spelling_refusal spells_bytes
  spelling a b c p q r = rw (p, q, r)

  module _ (t : Bool) (d : t ≡ all_digits l) where
    pub spelling_digits : t ≡ false → 20 ≡ spelling_refusal (line_of l e)
    spelling_digits q = spelling false (eqb (length l % 2) 0) e (sym d ∙ q) refl refl

    pub spelling_odd : t ≡ true → (length l % 2 ≡ 0 → ⊥) → 20 ≡ spelling_refusal (line_of l e)
    spelling_odd q n = spelling true false e (sym d ∙ q) (ne_eqb (length l % 2) 0 n) refl

    pub spelling_open : t ≡ true → length l % 2 ≡ 0 → e ≡ false → 20 ≡ spelling_refusal (line_of l e)
    spelling_open q n r = spelling true true false (sym d ∙ q) (eq-eqb (length l % 2) 0 n) r

    pub spelling_right : t ≡ true → length l % 2 ≡ 0 → e ≡ true → 0 ≡ spelling_refusal (line_of l e)
    spelling_right q n r = spelling true true true (sym d ∙ q) (eq-eqb (length l % 2) 0 n) r

  length_as : (a : Bool) → agrees l ≡ a → cond a 0 21 ≡ length_refusal (line_of l e)
  unfolding length_refusal
  length_as a q = rw q

  pub length_short : length l < front_digits → 21 ≡ length_refusal (line_of l e)
  unfolding agrees
  length_short h = length_as false (rw (lt-leb front_digits (length l) h))

  module _ (f : ℕ) (k : front_digits ≤ length l) (g : f ≡ length_field l) where
    pub length_differs : (length l ≡ front_digits + 2 * f → ⊥) → 21 ≡ length_refusal (line_of l e)
    unfolding agrees
    length_differs z = length_as false (rw (le-leb front_digits (length l) k, sym g, ne_eqb (length l) (front_digits + 2 * f) z))

    pub length_agrees : length l ≡ front_digits + 2 * f → 0 ≡ length_refusal (line_of l e)
    unfolding agrees
    length_agrees z = length_as true (rw (le-leb front_digits (length l) k, sym g, eq-eqb (length l) (front_digits + 2 * f) z))

  pub in_order : (a b c d r : ℕ) → a ≡ long_refusal (line_of l e) → b ≡ spelling_refusal (line_of l e) → c ≡ length_refusal (line_of l e)
      → d ≡ first_of b c → r ≡ first_of a d → r ≡ form_refusal (line_of l e)
  unfolding form_refusal
  in_order a b c d r p q s u v =
      v
      ∙ ap (first_of a) (u ∙ ap (λ (x : ℕ). first_of x c) q ∙ ap (first_of (spelling_refusal (line_of l e))) s)
      ∙ ap (λ (x : ℕ). first_of x (first_of (spelling_refusal (line_of l e)) (length_refusal (line_of l e)))) p

pub first_is_lem : (a b : ℕ) → (a ≡ 0 → ⊥) → a ≡ first_of a b
unfolding first_of
first_is_lem zero b h = absurd (h refl)
first_is_lem (suc a) b h = refl

pub first_none : (a b : ℕ) → a ≡ 0 → b ≡ first_of a b
unfolding first_of
first_none zero b h = refl
first_none (suc a) b h = absurd (omega arith)

-- ---- the line that is being read
pub first_begun : (line : List ℕ) → reading line first_line ≡ begun
first_begun line = refl

-- one byte more
module _ (line : List ℕ) (held b : ℕ) (s : length line ≡ 8469) where
  pub push_full : 8469 ≤ held → held ≤ 8469 → take held line ≡ grown (take held line) b
  unfolding grown most_held
  push_full h k =
      let n : length (take held line) ≡ most_held = length-take-le held line (omega arith) ∙ (omega arith) in
      sym (take_at (take held line) (b ∷ []) most_held n)

  pub push_more : held < 8469 → take (held + 1) (set line held b) ≡ grown (take held line) b
  unfolding grown most_held
  push_more h =
      let n : length (take held line ++ (b ∷ [])) ≡ held + 1 = length-append (take held line) (b ∷ []) ∙ ap (λ (k : ℕ). k + 1) (length-take-le held line (omega arith)) in
      ap (λ (k : ℕ). take k (set line held b)) (add-one held)
      ∙ take-suc-set line held b (omega arith)
      ∙ sym (take_all most_held (take held line ++ (b ∷ [])) (omega arith))

-- ---- a byte that ends no line, and one that ends a line: the state behind it, and what is written of it
abbrev at : ℕ → List ℕ → Reading
at n l = record { number = n; held = l }

module _ (n b : ℕ) (l : List ℕ) (h : b ≡ line_feed → ⊥) where
  pub more_state : (m : List ℕ) → m ≡ grown l b → record { number = n; held = m } ≡ step_state (record { number = n; held = l }) b
  more_state m e = ap (at n) e ∙ sym (state_more (at n l) b (ne_eqb b line_feed h))

  pub more_out : {A : Type 0} (f : ℕ → Line → List A) → [] ≡ step_out f (record { number = n; held = l }) b
  more_out f = sym (out_none f (at n l) b (ne_eqb b line_feed h))

module _ (n b : ℕ) (l : List ℕ) (h : b ≡ line_feed) where
  end_state : record { number = n + 1; held = [] } ≡ step_state (record { number = n; held = l }) b
  end_state = ap (λ (x : ℕ). at x []) (add-one n) ∙ sym (state_end (at n l) b (eq-eqb b line_feed h))

  -- as the code has it: so many bytes of a buffer, which are none
  pub ended_state : (line : List ℕ) (k j : ℕ) → k ≡ n + 1 → j ≡ 0 → record { number = k; held = take j line } ≡ step_state (record { number = n; held = l }) b
  ended_state line k j p q =
      ap (λ (x : ℕ). at x (take j line)) p ∙ ap (λ (x : ℕ). at (n + 1) (take x line)) q ∙ end_state

  pub end_out_lem : {A : Type 0} (f : ℕ → Line → List A) → f n (ended l) ≡ step_out f (record { number = n; held = l }) b
  end_out_lem f = sym (out_end f (at n l) b (eq-eqb b line_feed h))

-- ---- the end of the text: nothing is held, or an unfinished line
pub end_none : {A : Type 0} (f : ℕ → Line → List A) (n held : ℕ) (line : List ℕ) → held ≡ 0 → [] ≡ end_out f (record { number = n; held = take held line })
unfolding end_out last_line written
end_none f n held line e = ap (λ (x : ℕ). end_out f (at n (take x line))) (sym e)

end_some : {A : Type 0} (f : ℕ → Line → List A) (n : ℕ) (l : List ℕ) → 0 < length l → f n (line_of l false) ≡ end_out f (record { number = n; held = l })
unfolding end_out last_line written
end_some f n [] h = absurd (omega arith)
end_some f n (b ∷ l) h = sym (append-nil (f n (line_of (b ∷ l) false)))

pub end_open : {A : Type 0} (f : ℕ → Line → List A) (n held : ℕ) (line : List ℕ) → (held ≡ 0 → ⊥) → held ≤ length line
    → f n (line_of (take held line) false) ≡ end_out f (record { number = n; held = take held line })
end_open f n held line h k = end_some f n (take held line) (omega (arith, length-take-le held line k))

-- ---- a piece, up to its i-th byte and one byte further
module _ (r : Reading) (s : List ℕ) (i : ℕ) where
  module _ (h : i < length s) where
    up : take i s ++ (get_or s i 0 ∷ []) ≡ take (i + 1) s
    up = sym (ap (λ (n : ℕ). take n s) (add-one i) ∙ take-suc s i 0 h)

    pub fed_next : step_state (fed_state r (take i s)) (get_or s i 0) ≡ fed_state r (take (i + 1) s)
    unfolding fed_state
    fed_next = sym (fed_state_lem r (take i s) (get_or s i 0 ∷ [])) ∙ ap (fed_state r) up

    pub out_next : {A : Type 0} (f : ℕ → Line → List A) → fed_out f r (take i s) ++ step_out f (fed_state r (take i s)) (get_or s i 0) ≡ fed_out f r (take (i + 1) s)
    unfolding fed_out
    out_next {A} f =
        ap (λ (l : List A). fed_out f r (take i s) ++ l) (sym (append-nil (step_out f (fed_state r (take i s)) (get_or s i 0))))
        ∙ sym (fed_out_lem f r (take i s) (get_or s i 0 ∷ []))
        ∙ ap (fed_out f r) up

  module _ (h : length s ≤ i) where
    pub fed_all : fed_state r (take i s) ≡ fed_state r s
    fed_all = ap (fed_state r) (take_all i s h)

    pub out_all : {A : Type 0} (f : ℕ → Line → List A) → fed_out f r (take i s) ≡ fed_out f r s
    out_all f = ap (fed_out f r) (take_all i s h)

-- Laws as the code meets them: a byte, a line lowered where it stands, its words, the tally, a line that has ended. Assumes nothing.
use Prim.Native.Nat.{ℕ, zero, suc, ◌+◌, ◌≤◌, ◌<◌}
use Rattle.std.proofs.Common.{arith, add-one, ◌∙◌, length-append, take-append-drop, take_at, drop-cons, length-take-le, eq-eqb, ne_eqb}
use Rattle.std.specs.Prelude.{◌≡◌, refl, Bool, true, false, length}
use Rattle.std.proofs.Math.Path.{sym, ap}
use Rattle.std.proofs.Math.Bool.{cond}
use mathlib.Core.List.{List, [], ◌∷◌, ◌++◌, append_assoc, append-nil}
use Rattle.std.proofs.Math.ListN.{take, drop, get_or, set}
use Rattle.std.proofs.Math.Seq.{take-suc, set_at}
use Rattle.std.proofs.lemmas.List.{get_or_at}
use Rattle.text_fields.specs.SpelledLaws.{both, inside}
use Rattle.text_room.specs.Decimal.{decimal}
use Rattle.book_lines.specs.Lines.{Line, line_of, line_feed}
use Rattle.book_lines.specs.Form.{form_refusal}
use Rattle.book_lines.specs.CodeLaws.{outside}
use Rattle.spoiled.specs.declared.tally.Tally.{Tally}
use Rattle.spoiled.specs.Salvage.{is_upper, lower, lowered, uppers, lowered_line, fate, kept_of, salvaged_as, salvaged_line, kept_word, lowered_word, dropped_word, fate_words, report_line, kind_of, kind_line, count, counted, all, lines_word}
use Rattle.spoiled.specs.SalvageLaws.{length_lowered}
use Rattle.spoiled.specs.Gave.{Gave, tally_of_lem}

-- ---- a byte
pub upper_is : (b : ℕ) → 65 ≤ b → b ≤ 70 → true ≡ is_upper b
upper_is b h k = sym (inside 65 70 b h k)

pub upper_none : (b : ℕ) → (65 ≤ b → b ≤ 70 → ⊥) → false ≡ is_upper b
upper_none b h = sym (outside 65 70 b h)

pub upper_small : (b : ℕ) (t : Bool) → t ≡ is_upper b → t ≡ true → b ≤ 70
upper_small b t e q = (both 65 70 b (sym e ∙ q)).1

module _ (b : ℕ) (t : Bool) (e : t ≡ is_upper b) where
  pub lower_upper : t ≡ true → b + 32 ≡ lower b
  unfolding lower
  lower_upper q = rw (sym e ∙ q)

  pub lower_other : t ≡ false → b ≡ lower b
  unfolding lower
  lower_other q = rw (sym e ∙ q)

  pub turned_upper : t ≡ true → ◌≡◌ {A = ℕ} 1 (cond (is_upper b) 1 0)
  turned_upper q = rw (sym e ∙ q)

  pub turned_other : t ≡ false → ◌≡◌ {A = ℕ} 0 (cond (is_upper b) 1 0)
  turned_other q = rw (sym e ∙ q)

-- ---- a line lowered in place
lowered_append : (a b : List ℕ) → lowered (a ++ b) ≡ lowered a ++ lowered b
unfolding lowered
lowered_append [] b = refl
lowered_append (x ∷ a) b = ap (λ (l : List ℕ). lower x ∷ l) (lowered_append a b)

uppers_append : (a b : List ℕ) → uppers (a ++ b) ≡ uppers a + uppers b
unfolding uppers
uppers_append [] b = omega arith
uppers_append (x ∷ a) b = let i = uppers_append a b in omega arith

-- of first the bytes before the i-th are lowered, k of them turned
pub record Lowering (first line : List ℕ) (k i : ℕ) : Type 0 where
  pub is : line ≡ lowered (take i first) ++ drop i first
  pub count : k ≡ uppers (take i first)
  pub few : k ≤ i

pub lowering_begun : (first : List ℕ) → Lowering first first 0 0
unfolding lowered uppers
lowering_begun first = record { is = refl; count = refl; few = omega arith }

module _ (first line : List ℕ) (k i : ℕ) (w : Lowering first line k i) (h : i < length first) where
  before_long : length (lowered (take i first)) ≡ i
  before_long = length_lowered (take i first) ∙ length-take-le i first (omega arith)

  split : line ≡ lowered (take i first) ++ (get_or first i 0 ∷ drop (suc i) first)
  split = w.is ∙ ap (λ (l : List ℕ). lowered (take i first) ++ l) (drop-cons first i 0 h)

  same_byte : get_or line i 0 ≡ get_or first i 0
  same_byte = ap (λ (l : List ℕ). get_or l i 0) split ∙ get_or_at (lowered (take i first)) (get_or first i 0) (drop (suc i) first) 0 i before_long

  pub lowering_more : (t v : ℕ) → t ≡ cond (is_upper (get_or line i 0)) 1 0 → t ≤ 1 → v ≡ lower (get_or line i 0) → Lowering first (set line i v) (k + t) (i + 1)
  unfolding lowered uppers
  lowering_more t v a z b =
      let x = get_or first i 0 in
      let p : v ≡ lower x = b ∙ ap lower same_byte in
      let q : t ≡ cond (is_upper x) 1 0 = a ∙ ap (λ (y : ℕ). cond (is_upper y) 1 0) same_byte in
      let f : take (i + 1) first ≡ take i first ++ (x ∷ []) = ap (λ (n : ℕ). take n first) (add-one i) ∙ take-suc first i 0 h in
      record {
        is =
            ap (λ (l : List ℕ). set l i v) split
            ∙ set_at (lowered (take i first)) x (drop (suc i) first) v i before_long
            ∙ ap (λ (y : ℕ). lowered (take i first) ++ (y ∷ drop (suc i) first)) p
            ∙ sym (append_assoc (lowered (take i first)) (lower x ∷ []) (drop (suc i) first))
            ∙ ap (λ (l : List ℕ). l ++ drop (suc i) first) (sym (lowered_append (take i first) (x ∷ [])))
            ∙ ap (λ (l : List ℕ). lowered l ++ drop (suc i) first) (sym f)
            ∙ ap (λ (n : ℕ). lowered (take (i + 1) first) ++ drop n first) (sym (add-one i));
        count =
            let m : uppers (take (i + 1) first) ≡ uppers (take i first) + uppers (x ∷ []) = ap uppers f ∙ uppers_append (take i first) (x ∷ []) in
            let d = w.count in omega arith;
        few = let d = w.few in omega arith;
      }

pub lowering_same : (first line : List ℕ) (k i : ℕ) → Lowering first line k i → length line ≡ length first
lowering_same first line k i w =
    ap length w.is
    ∙ length-append (lowered (take i first)) (drop i first)
    ∙ ap (λ (n : ℕ). n + length (drop i first)) (length_lowered (take i first))
    ∙ sym (length-append (take i first) (drop i first))
    ∙ ap length (take-append-drop i first)

pub lowering_done : (first line : List ℕ) (k i n : ℕ) → Lowering first line k i → i ≡ n → (line ≡ lowered (take n first) ++ drop n first) × (k ≡ uppers (take n first))
lowering_done first line k i n w e = (w.is ∙ ap (λ (m : ℕ). lowered (take m first) ++ drop m first) e, w.count ∙ ap (λ (m : ℕ). uppers (take m first)) e)

-- ---- the line as it then stands
module _ (line after : List ℕ) (n : ℕ) (h : n ≤ length line) (e : after ≡ lowered (take n line) ++ drop n line) where
  front_long : length (lowered (take n line)) ≡ n
  front_long = length_lowered (take n line) ∙ length-take-le n line h

  pub lowered_front : take n after ≡ lowered (take n line)
  lowered_front = ap (take n) e ∙ take_at (lowered (take n line)) (drop n line) n front_long

  pub front_length : n ≡ length (take n after)
  front_length = sym (ap length lowered_front ∙ front_long)

pub fate_is : (l m : List ℕ) (e : Bool) (k : ℕ) → m ≡ lowered l → k ≡ form_refusal (line_of m e) → k ≡ fate (line_of l e)
unfolding fate lowered_line
fate_is l m e k p q = q ∙ ap (λ (x : List ℕ). form_refusal (line_of x e)) p

-- ---- words
pub kept_none : (n : ℕ) (l t : List ℕ) → (n ≡ 0 → ⊥) → t ≡ t ++ kept_of n l
unfolding kept_of
kept_none zero l t h = absurd (h refl)
kept_none (suc n) l t h = sym (append-nil t)

pub kept_all : (n : ℕ) (l : List ℕ) → n ≡ 0 → l ≡ kept_of n l
unfolding kept_of
kept_all zero l h = refl
kept_all (suc n) l h = absurd (omega arith)

pub kept_both : (n : ℕ) (l : List ℕ) → kept_of n l ++ kept_of n (line_feed ∷ []) ≡ salvaged_as n l
unfolding salvaged_as kept_of
kept_both zero l = refl
kept_both (suc n) l = refl

pub words_dropped : (n k : ℕ) → (n ≡ 0 → ⊥) → dropped_word ++ decimal n ≡ fate_words n k
unfolding fate_words
words_dropped zero k h = absurd (h refl)
words_dropped (suc n) k h = refl

pub words_kept : (n k : ℕ) → n ≡ 0 → k ≡ 0 → kept_word ≡ fate_words n k
unfolding fate_words
words_kept zero zero h j = refl
words_kept zero (suc k) h j = absurd (omega arith)
words_kept (suc n) k h j = absurd (omega arith)

pub words_lowered : (n k : ℕ) → n ≡ 0 → (k ≡ 0 → ⊥) → lowered_word ++ decimal k ≡ fate_words n k
unfolding fate_words
words_lowered zero zero h j = absurd (j refl)
words_lowered zero (suc k) h j = refl
words_lowered (suc n) k h j = absurd (omega arith)

pub one_line : (n : ℕ) → n ≡ 1 → 32 ∷ 108 ∷ 105 ∷ 110 ∷ 101 ∷ 58 ∷ 32 ∷ [] ≡ lines_word n
unfolding lines_word
one_line n h = rw (eq-eqb n 1 h)

pub more_lines : (n : ℕ) → (n ≡ 1 → ⊥) → 32 ∷ 108 ∷ 105 ∷ 110 ∷ 101 ∷ 115 ∷ 58 ∷ 32 ∷ [] ≡ lines_word n
unfolding lines_word
more_lines n h = rw (ne_eqb n 1 h)

-- ---- one line more in the tally
module _ (t : Tally) where
  pub count_dropped : (n k : ℕ) → (n ≡ 0 → ⊥) → record { kept = t.kept; lowered = t.lowered; dropped = t.dropped + 1 } ≡ counted t (kind_of n k ∷ [])
  unfolding counted count kind_of
  count_dropped zero k h = absurd (h refl)
  count_dropped (suc n) k h = tally_of_lem _ (t.kept + 0) (t.lowered + 0) (t.dropped + 1) (omega arith) (omega arith) (omega arith)

  pub count_lowered : (n k : ℕ) → n ≡ 0 → (k ≡ 0 → ⊥) → record { kept = t.kept; lowered = t.lowered + 1; dropped = t.dropped } ≡ counted t (kind_of n k ∷ [])
  unfolding counted count kind_of
  count_lowered zero zero h j = absurd (j refl)
  count_lowered zero (suc k) h j = tally_of_lem _ (t.kept + 0) (t.lowered + 1) (t.dropped + 0) (omega arith) (omega arith) (omega arith)
  count_lowered (suc n) k h j = absurd (omega arith)

  pub count_kept : (n k : ℕ) → n ≡ 0 → k ≡ 0 → record { kept = t.kept + 1; lowered = t.lowered; dropped = t.dropped } ≡ counted t (kind_of n k ∷ [])
  unfolding counted count kind_of
  count_kept zero zero h j = tally_of_lem _ (t.kept + 1) (t.lowered + 0) (t.dropped + 0) (omega arith) (omega arith) (omega arith)
  count_kept zero (suc k) h j = absurd (omega arith)
  count_kept (suc n) k h j = absurd (omega arith)

pub all_below : (t t' : Tally) (n : ℕ) → all t' ≡ all t + 1 → all t < n → all t' < n + 1
all_below t t' n e h = omega arith

-- ---- a line that has ended: of l, lowered to m, by its number k and u digits that were turned
pub line_gave : (n k u : ℕ) (l m b p b' p' : List ℕ) (e : Bool) (t t' : Tally)
    → k ≡ fate (line_of l e) → u ≡ uppers l → m ≡ lowered l
    → b' ≡ b ++ salvaged_as k m → p' ≡ p ++ (decimal n ++ (fate_words k u ++ (line_feed ∷ []))) → t' ≡ counted t (kind_of k u ∷ [])
    → Gave (λ (f : ℕ → Line → List ℕ). f n (line_of l e)) b p t b' p' t'
unfolding salvaged_line report_line kind_line
line_gave n k u l m b p b' p' e t t' hk hu hm hb hp ht =
    record {
      in_book = hb ∙ ap (λ (x : List ℕ). b ++ salvaged_as k x) hm ∙ ap (λ (x : ℕ). b ++ salvaged_as x (lowered l)) hk;
      in_report =
          hp
          ∙ ap (λ (x : ℕ). p ++ (decimal n ++ (fate_words x u ++ (line_feed ∷ [])))) hk
          ∙ ap (λ (x : ℕ). p ++ (decimal n ++ (fate_words (fate (line_of l e)) x ++ (line_feed ∷ [])))) hu;
      in_tally =
          ht ∙ ap (λ (x : ℕ). counted t (kind_of x u ∷ [])) hk ∙ ap (λ (x : ℕ). counted t (kind_of (fate (line_of l e)) x ∷ [])) hu;
    }

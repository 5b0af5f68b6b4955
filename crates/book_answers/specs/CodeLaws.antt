-- Laws as the code meets them: the frame that a line spells, the words, the tally, a line that has ended, a piece. Assumes nothing.
use Rattle.std.specs.Prelude.{ℕ, zero, suc, ◌+◌, ◌*◌, ◌/◌, ◌≤◌, ◌<◌, ◌≡◌, refl, Bool, cond, ltb, length, get_or, set, Err}
use Rattle.std.proofs.Common.{arith, sym, ◌∙◌, length-take, lt-ltb, le-ltb}
use Rattle.std.proofs.Math.Path.{ap}
use mathlib.Core.List.{List, [], ◌∷◌, ◌++◌}
use Rattle.std.proofs.Math.ListN.{take, drop}
use Rattle.std.proofs.Math.Seq.{take_all, take_at, set_out}
use Rattle.text_fields.specs.Spelled.{octets_of, octets_over}
use Rattle.text_room.specs.Decimal.{decimal}
use Rattle.book_lines.specs.declared.pending.Pending.{Pending}
use Rattle.book_lines.specs.Lines.{Line, line_of, line_feed}
use Rattle.book_lines.specs.Form.{form_refusal}
use Rattle.book_lines.specs.FormLaws.{Keeps, keeps}
use Rattle.book_lines.specs.Steps.{Reading, reading, step_state, step_out, fed_state, fed_out}
use Rattle.book_lines.specs.CodeLaws.{fed_next, out_next, fed_all, out_all}
use Rattle.frame.specs.Verdict.{verdict, Verdict, ok}
use Rattle.book_answers.specs.declared.answering.Answering.{Answering}
use Rattle.book_answers.specs.Answers.{ok_word, no_word, ok_words, no_words, verdict_words, judged_by, judged, answer_line, outcome, outcome_line, one_more, counted}
use Rattle.book_answers.specs.AnswerLaws.{keeps_long, keeps_half}
use Rattle.book_answers.specs.Gave.{Gave, gave_none, gave_as, gave_then}

-- ---- a line that keeps the form: its bytes stand at the front of the room, and are a frame
module _ (l : List ℕ) (e : Bool) (n : ℕ) (f : n ≡ form_refusal (line_of l e)) (z : n ≡ 0) where
  kept : Keeps (line_of l e)
  kept = keeps (line_of l e) (sym f ∙ z)

  module _ (room out : List ℕ) (r : length room ≡ 4234) (p : out ≡ octets_over l room) where
    pub front_bytes : take (length l / 2) out ≡ octets_of l
    unfolding octets_over
    front_bytes =
        let s = kept.short in
        let h = keeps_half (line_of l e) kept in
        let w : take (length room) (octets_of l) ≡ octets_of l = take_all (length room) (octets_of l) (omega arith) in
        let q : out ≡ octets_of l ++ drop (length (octets_of l)) room = p ∙ ap (λ (x : List ℕ). x ++ drop (length x) room) w in
        ap (take (length l / 2)) q ∙ take_at (octets_of l) (drop (length (octets_of l)) room) (length l / 2) (omega arith)

    pub front_count : length l / 2 ≡ length (take (length l / 2) out)
    front_count = let h = keeps_half (line_of l e) kept in let q = ap length front_bytes in omega arith

    pub front_room : length l / 2 ≤ length out
    front_room = let q = front_count in omega (arith, length-take (length l / 2) out)

  pub front_long : 138 ≤ length l / 2
  front_long = let h = keeps_long (line_of l e) kept in omega arith

  pub judged_frame : (bytes : List ℕ) (v : Verdict) → bytes ≡ octets_of l → v ≡ verdict bytes → v ≡ judged (line_of l e)
  unfolding judged judged_by
  judged_frame bytes v b w = w ∙ ap verdict b ∙ ap (λ (x : ℕ). judged_by x l) (sym z ∙ f)

no_by : (n : ℕ) (l : List ℕ) → (n ≡ 0 → ⊥) → Err n ≡ judged_by n l
unfolding judged_by
no_by zero l h = absurd (h refl)
no_by (suc n) l h = refl

pub judged_form : (l : List ℕ) (e : Bool) (n : ℕ) → n ≡ form_refusal (line_of l e) → (n ≡ 0 → ⊥) → Err n ≡ judged (line_of l e)
unfolding judged
judged_form l e n f h = no_by n l h ∙ ap (λ (x : ℕ). judged_by x l) f

-- ---- words
pub ok_is : (g p : ℕ) → ok_word ++ (decimal g ++ ((32 ∷ []) ++ decimal p)) ≡ ok_words g p
unfolding ok_words
ok_is g p = refl

pub no_is : (n : ℕ) → no_word ++ decimal n ≡ no_words n
unfolding no_words
no_is n = refl

pub ok_words_lem : (v : Verdict) (g p : ℕ) → v ≡ ok g p → ok_words g p ≡ verdict_words v
unfolding verdict_words
ok_words_lem v g p e = ap verdict_words (sym e)

pub no_words_lem : (v : Verdict) (n : ℕ) → v ≡ Err n → no_words n ≡ verdict_words v
unfolding verdict_words
no_words_lem v n e = ap verdict_words (sym e)

-- ---- the tally
pub more_stopped : (n : ℕ) → 18446744073709551615 ≤ n → n ≡ one_more n
unfolding one_more
more_stopped n h = rw (le-ltb n 18446744073709551615 h)

pub more_one : (n : ℕ) → n < 18446744073709551615 → n + 1 ≡ one_more n
unfolding one_more
more_one n h = rw (lt-ltb n 18446744073709551615 h)

pub count_none : (t : List ℕ) (k : ℕ) → length t ≤ k → t ≡ counted t (k ∷ [])
unfolding counted
count_none t k h = sym (set_out t k (one_more (get_or t k 0)) h)

pub count_one : (t : List ℕ) (k v : ℕ) → v ≡ one_more (get_or t k 0) → set t k v ≡ counted t (k ∷ [])
unfolding counted
count_one t k v e = ap (set t k) e

-- ---- a line that has ended
pub line_gave : (n k : ℕ) (l o o' t t' : List ℕ) (e : Bool) (v : Verdict) → v ≡ judged (line_of l e) → k ≡ outcome v
    → o' ≡ o ++ (decimal n ++ (verdict_words v ++ (line_feed ∷ []))) → t' ≡ counted t (k ∷ [])
    → Gave (λ (f : ℕ → Line → List ℕ). f n (line_of l e)) o t o' t'
unfolding answer_line outcome_line
line_gave n k l o o' t t' e v hv hk ho ht =
    record {
      in_out = ho ∙ ap (λ (x : Verdict). o ++ (decimal n ++ (verdict_words x ++ (line_feed ∷ [])))) hv;
      in_tally = ht ∙ ap (λ (x : ℕ). counted t (x ∷ [])) hk ∙ ap (λ (x : Verdict). counted t (outcome x ∷ [])) hv;
    }

-- ---- a piece: what its first i bytes gave, from s₀ with line₀ and tally₀ to s with line, tally and out
pub record Feeding (piece line₀ line tally₀ tally out : List ℕ) (s₀ s : Answering) (i : ℕ) : Type 0 where
  pub state : reading line s.line ≡ fed_state (reading line₀ s₀.line) (take i piece)
  pub gave : Gave (λ (f : ℕ → Line → List ℕ). fed_out f (reading line₀ s₀.line) (take i piece)) [] tally₀ (take s.out out) tally
  pub holds : s.line.held ≤ 8469
  pub out_room : s.out ≤ 70 * i
  pub later : s₀.line.number ≤ s.line.number
  pub numbers : s.line.number ≤ s₀.line.number + i

pub feeding_begun : (piece line tally out : List ℕ) (p : Pending) → p.held ≤ 8469
    → Feeding piece line line tally tally out (record { line = p; out = 0 }) (record { line = p; out = 0 }) 0
unfolding fed_state fed_out
feeding_begun piece line tally out p h =
    record { state = refl; gave = gave_none [] tally; holds = h; out_room = omega arith; later = omega arith; numbers = omega arith }

module _ (piece line₀ line line' tally₀ tally tally' out out' : List ℕ) (s₀ s s' : Answering) (i : ℕ) (w : Feeding piece line₀ line tally₀ tally out s₀ s i) where
  pub feeding_more : i < length piece
      → reading line' s'.line ≡ step_state (reading line s.line) (get_or piece i 0)
      → Gave (λ (f : ℕ → Line → List ℕ). step_out f (reading line s.line) (get_or piece i 0)) (take s.out out) tally (take s'.out out') tally'
      → s'.line.held ≤ 8469 → s'.out ≤ s.out + 70 → s.line.number ≤ s'.line.number → s'.line.number ≤ s.line.number + 1
      → Feeding piece line₀ line' tally₀ tally' out' s₀ s' (i + 1)
  feeding_more h e g a b c d =
      let r = reading line₀ s₀.line in
      let x = get_or piece i 0 in
      record {
        state = e ∙ ap (λ (q : Reading). step_state q x) w.state ∙ fed_next r piece i h;
        gave =
            gave_as (λ (f : ℕ → Line → List ℕ). ap (λ (q : Reading). fed_out f r (take i piece) ++ step_out f q x) w.state ∙ out_next r piece i h f)
            (gave_then w.gave g);
        holds = a;
        out_room = let z = w.out_room in omega arith;
        later = let z = w.later in omega arith;
        numbers = let z = w.numbers in omega arith;
      }

module _ (piece line₀ line tally₀ tally out : List ℕ) (s₀ s : Answering) (i : ℕ) (w : Feeding piece line₀ line tally₀ tally out s₀ s i) where
  pub feeding_state : length piece ≤ i → reading line s.line ≡ fed_state (reading line₀ s₀.line) piece
  feeding_state h = w.state ∙ fed_all (reading line₀ s₀.line) piece i h

  pub feeding_gave : length piece ≤ i → Gave (λ (f : ℕ → Line → List ℕ). fed_out f (reading line₀ s₀.line) piece) [] tally₀ (take s.out out) tally
  feeding_gave h = gave_as (out_all (reading line₀ s₀.line) piece i h) w.gave

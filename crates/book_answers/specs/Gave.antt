-- What a part of a book gave: what was put behind the answers, and what the tally then is. Assumes nothing.
use Rattle.std.specs.Prelude.{ℕ, ◌≡◌, refl, List, [], ◌∷◌, ◌++◌, get_or, set}
use Rattle.std.proofs.Common.{sym, ap, ◌∙◌, append_assoc, append-nil}
use Rattle.book_lines.specs.Lines.{Line}
use Rattle.book_lines.specs.Steps.{Reading, begun, fed_state, fed_out, end_out, pieces_out, joined}
use Rattle.book_answers.specs.Answers.{answer_line, answers, outcome_line, one_more, counted, no_frames, tallied}
use Rattle.book_answers.specs.AnswerLaws.{answers_cut, tallied_cut}

-- g says what the part gives by each f: of a line, of a byte, of a piece, of the end
pub record Gave (g : (ℕ → Line → List ℕ) → List ℕ) (out tally out' tally' : List ℕ) : Type 0 where
  pub in_out : out' ≡ out ++ g answer_line
  pub in_tally : tally' ≡ counted tally (g outcome_line)

counted_append : (t a b : List ℕ) → counted (counted t a) b ≡ counted t (a ++ b)
unfolding counted
counted_append t [] b = refl
counted_append t (k ∷ a) b = counted_append (set t k (one_more (get_or t k 0))) a b

-- ---- parts one behind the other
pub gave_none : (out tally : List ℕ) → Gave (λ (f : ℕ → Line → List ℕ). []) out tally out tally
unfolding counted
gave_none out tally = record { in_out = sym (append-nil out); in_tally = refl }

module _ {g h : (ℕ → Line → List ℕ) → List ℕ} {o t o' t' : List ℕ} where
  pub gave_as : ((f : ℕ → Line → List ℕ) → g f ≡ h f) → Gave g o t o' t' → Gave h o t o' t'
  gave_as e w =
      record {
        in_out = w.in_out ∙ ap (λ (x : List ℕ). o ++ x) (e answer_line);
        in_tally = w.in_tally ∙ ap (counted t) (e outcome_line);
      }

  pub gave_then : {o'' t'' : List ℕ} → Gave g o t o' t' → Gave h o' t' o'' t'' → Gave (λ (f : ℕ → Line → List ℕ). g f ++ h f) o t o'' t''
  gave_then w v =
      record {
        in_out = v.in_out ∙ ap (λ (x : List ℕ). x ++ h answer_line) w.in_out ∙ append_assoc o (g answer_line) (h answer_line);
        in_tally = v.in_tally ∙ ap (λ (x : List ℕ). counted x (h outcome_line)) w.in_tally ∙ counted_append t (g outcome_line) (h outcome_line);
      }

-- ---- a run of calls: pieces fed one after the other, each from the state that the one before left, then the end; what each gave is written at once
pub data Run : Reading → List ℕ → List (List ℕ) → List ℕ → List ℕ → Type 0 where
  ended : {r : Reading} {t t' out : List ℕ} → Gave (λ (f : ℕ → Line → List ℕ). end_out f r) [] t out t' → Run r t [] out t'
  fed : {r : Reading} {t t' t'' piece out out' : List ℕ} {pieces : List (List ℕ)}
      → Gave (λ (f : ℕ → Line → List ℕ). fed_out f r piece) [] t out t' → Run (fed_state r piece) t' pieces out' t''
      → Run r t (piece ∷ pieces) (out ++ out') t''

run_gave : {r : Reading} {t t' out : List ℕ} {cs : List (List ℕ)} → Run r t cs out t' → Gave (λ (f : ℕ → Line → List ℕ). pieces_out f r cs) [] t out t'
unfolding pieces_out
run_gave (Run.ended w) = record { in_out = w.in_out; in_tally = w.in_tally }
run_gave (Run.fed {r} {t} {t'} {t''} {piece} {out} {out'} {pieces} w v) =
    let x = run_gave v in
    record {
      in_out = ap (λ (l : List ℕ). l ++ out') w.in_out ∙ ap (λ (l : List ℕ). fed_out answer_line r piece ++ l) x.in_out;
      in_tally =
          x.in_tally
          ∙ ap (λ (u : List ℕ). counted u (pieces_out outcome_line (fed_state r piece) pieces)) w.in_tally
          ∙ counted_append t (fed_out outcome_line r piece) (pieces_out outcome_line (fed_state r piece) pieces);
    }

-- THE law of a run: however the book is cut, the answers and the tally are those of the whole
pub run_whole : {cs : List (List ℕ)} {out t : List ℕ} → Run begun no_frames cs out t → (out ≡ answers (joined cs)) × (t ≡ tallied (joined cs))
run_whole {cs} w = let x = run_gave w in (x.in_out ∙ answers_cut cs, x.in_tally ∙ tallied_cut cs)

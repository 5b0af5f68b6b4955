-- Laws of a book's figures: however it is cut; each size's are figures' own sum of the book's events. Assumes nothing.
use Rattle.std.specs.Prelude.{ℕ, ◌<◌, ◌≡◌, length}
use Rattle.std.proofs.Math.Path.{refl, ap}
use Rattle.std.proofs.Common.{◌∙◌}
use mathlib.Core.List.{List, [], ◌∷◌, ◌++◌}
use Rattle.text_fields.specs.Spelled.{octets_of}
use Rattle.book_lines.specs.Lines.{Line}
use Rattle.book_lines.specs.Form.{most_digits}
use Rattle.book_lines.specs.FormLaws.{form_long, clips_by}
use Rattle.book_lines.specs.Steps.{Reading, begun, fed_state, fed_out, end_out, pieces_out, joined}
use Rattle.book_lines.specs.LineLaws.{Clips, cut}
use Rattle.book_answers.specs.Answers.{judged_by, judged}
use Rattle.figures.specs.Figures.{Event, refusal, Figures}
use Rattle.figures.specs.Entries.{add, add_all}
use Rattle.figures.specs.Entries as entries
use Rattle.morning_add.specs.Sums.{event_by, framed, line_event, event_line, events, Sum, plus, Four, four_plus, added, no_sums, book_sums}

pub event_clips : Clips event_line
unfolding event_line line_event judged judged_by event_by
event_clips =
    clips_by event_line (λ (n : ℕ). refusal 22 ∷ [])
    (λ (n : ℕ) (l : Line) (h : most_digits < length l.text). ap (λ (k : ℕ). framed (judged_by k l.text) (octets_of l.text) ∷ []) (form_long l h))

-- ---- parts of a book one behind the other
pub added_append : (f : Four) (a b : List Event) → added (added f a) b ≡ added f (a ++ b)
unfolding added
added_append f [] b = refl
added_append f (e ∷ a) b = added_append (four_plus f e) a b

-- ---- a run of calls: pieces fed one after the other, each from the state that the one before left, then the end
pub data Run : Reading → Four → List (List ℕ) → Four → Type 0 where
  ended : {r : Reading} {f f' : Four} → f' ≡ added f (end_out event_line r) → Run r f [] f'
  fed : {r : Reading} {f f' f'' : Four} {piece : List ℕ} {pieces : List (List ℕ)}
      → f' ≡ added f (fed_out event_line r piece) → Run (fed_state r piece) f' pieces f''
      → Run r f (piece ∷ pieces) f''

run_added : {r : Reading} {f f' : Four} {cs : List (List ℕ)} → Run r f cs f' → f' ≡ added f (pieces_out event_line r cs)
unfolding pieces_out
run_added (Run.ended w) = w
run_added (Run.fed {r} {f} {f'} {f''} {piece} {pieces} w v) =
    run_added v
    ∙ ap (λ (x : Four). added x (pieces_out event_line (fed_state r piece) pieces)) w
    ∙ added_append f (fed_out event_line r piece) (pieces_out event_line (fed_state r piece) pieces)

-- THE law of a run: however the book is cut, the figures are those of the whole
pub run_whole : {cs : List (List ℕ)} {f : Four} → Run begun no_sums cs f → f ≡ book_sums (joined cs)
run_whole {cs} w = run_added w ∙ ap (added no_sums) (cut event_line event_clips cs)

-- ---- each size's are figures' own: add-is-count and order-free of figures/proofs/AddLaws say what that is
module _ (pick : Four → Sum) (picks : (f : Four) (e : Event) → (pick (four_plus f e)).figures ≡ (add (pick f).figures e).figures) where
  picked : (f : Four) (es : List Event) → (pick (added f es)).figures ≡ add_all (pick f).figures es
  unfolding added add_all
  picked f [] = refl
  picked f (e ∷ es) = picked (four_plus f e) es ∙ ap (λ (x : Figures). add_all x es) (picks f e)

pub sum_of_4 : (s : List ℕ) → (book_sums s).of4.figures ≡ add_all (entries.begun 2) (events s)
unfolding plus
sum_of_4 s = picked (λ f. f.of4) (λ f e. refl) no_sums (events s)

pub sum_of_8 : (s : List ℕ) → (book_sums s).of8.figures ≡ add_all (entries.begun 3) (events s)
unfolding plus
sum_of_8 s = picked (λ f. f.of8) (λ f e. refl) no_sums (events s)

pub sum_of_16 : (s : List ℕ) → (book_sums s).of16.figures ≡ add_all (entries.begun 4) (events s)
unfolding plus
sum_of_16 s = picked (λ f. f.of16) (λ f e. refl) no_sums (events s)

pub sum_of_32 : (s : List ℕ) → (book_sums s).of32.figures ≡ add_all (entries.begun 5) (events s)
unfolding plus
sum_of_32 s = picked (λ f. f.of32) (λ f e. refl) no_sums (events s)

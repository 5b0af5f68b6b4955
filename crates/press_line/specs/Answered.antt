-- THE theorem of the press and the book: for every drawing that is pressed, the line passes the book's form, and the book answers it by ok, the greatest
-- magnitude of its levels, and 0. Assumes nothing.
use Rattle.std.specs.Prelude.{ℕ, ◌≡◌, List, [], ◌∷◌, ◌++◌, take, ℤ}
use Rattle.std.proofs.Common.{◌∙◌}
use Rattle.std.proofs.Math.Path.{ap}
use Rattle.text_room.specs.Decimal.{decimal}
use Rattle.cabac.specs.Numbers.{accepted}
use Rattle.hevc_residual.specs.Wanted.{area}
use Rattle.hevc_residual.specs.Residual.{greatest_of}
use Rattle.book_lines.specs.Lines.{ended, line_feed}
use Rattle.book_lines.specs.Form.{form_refusal}
use Rattle.frame.specs.Frame.{params_of}
use Rattle.frame.specs.Verdict.{verdict, Verdict, ok}
use Rattle.book_answers.specs.Answers.{judged_by, judged, ok_words, verdict_words, answer_line}
use Rattle.press_frame.specs.Pressed.{pressed}
use Rattle.press_frame.specs.Judged.{pressed_judged, pressed_long}
use Rattle.press_line.specs.Spelled.{spelled, Octets}
use Rattle.press_line.specs.SpelledLaws.{spelled_octets, spelled_form}

module _ (room : ℕ) (head values : List ℕ) (levels : List ℤ) (f : List ℕ) (e : pressed room head values levels ≡ accepted f) (o : Octets f) where
  abbrev pub greatest : ℕ
  greatest = greatest_of (take (area (params_of head)) levels)

  pub line_passes : form_refusal (ended (spelled f)) ≡ 0
  line_passes = spelled_form f o (pressed_long room head values levels f e)

  line_judged : judged (ended (spelled f)) ≡ ok greatest 0
  unfolding judged judged_by
  line_judged =
      ap (λ (n : ℕ). judged_by n (spelled f)) line_passes
      ∙ ap verdict (spelled_octets f o)
      ∙ pressed_judged room head values levels f e

  -- by whatever number n the line has
  pub line_answered : (n : ℕ) → answer_line n (ended (spelled f)) ≡ decimal n ++ (ok_words greatest 0 ++ (line_feed ∷ []))
  unfolding answer_line verdict_words
  line_answered n = ap (λ (v : Verdict). decimal n ++ (verdict_words v ++ (line_feed ∷ []))) line_judged

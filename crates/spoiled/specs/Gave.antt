-- What a part of a spoiled book gave: what was put behind the book and behind the report, and what the tally then is. Assumes nothing.
use Rattle.std.specs.Prelude.{ℕ, ◌+◌, ◌≡◌, List, [], ◌∷◌, ◌++◌}
use Rattle.std.proofs.Common.{arith, sym, ap, ◌∙◌, append_assoc, append-nil}
use Rattle.book_lines.specs.Lines.{Line}
use Rattle.book_lines.specs.Steps.{Reading, begun, fed_state, fed_out, end_out, pieces_out, joined}
use Rattle.spoiled.specs.declared.tally.Tally.{Tally}
use Rattle.spoiled.specs.Salvage.{salvaged_line, salvaged, report_line, salvage_report, kind_line, count, counted, no_lines, tallied}
use Rattle.spoiled.specs.SalvageLaws.{salvaged_cut, report_cut, tallied_cut}

-- g says what the part gives by each f: of a line, of a byte, of a piece, of the end
pub record Gave (g : (ℕ → Line → List ℕ) → List ℕ) (book report : List ℕ) (tally : Tally) (book' report' : List ℕ) (tally' : Tally) : Type 0 where
  pub in_book : book' ≡ book ++ g salvaged_line
  pub in_report : report' ≡ report ++ g report_line
  pub in_tally : tally' ≡ counted tally (g kind_line)

-- ---- tallies
pub tally_of_lem : (t : Tally) (a b c : ℕ) → t.kept ≡ a → t.lowered ≡ b → t.dropped ≡ c → t ≡ record { kept = a; lowered = b; dropped = c }
tally_of_lem t a b c p q r =
    ap (λ (x : ℕ). record { kept = x; lowered = t.lowered; dropped = t.dropped }) p
    ∙ ap (λ (x : ℕ). record { kept = a; lowered = x; dropped = t.dropped }) q
    ∙ ap (λ (x : ℕ). record { kept = a; lowered = b; dropped = x }) r

count_append : (k : ℕ) (a b : List ℕ) → count k (a ++ b) ≡ count k a + count k b
unfolding count
count_append k [] b = omega arith
count_append k (x ∷ a) b = let i = count_append k a b in omega arith

counted_none : (t : Tally) → t ≡ counted t []
unfolding counted count
counted_none t = tally_of_lem t (t.kept + 0) (t.lowered + 0) (t.dropped + 0) (omega arith) (omega arith) (omega arith)

counted_append : (t : Tally) (a b : List ℕ) → counted (counted t a) b ≡ counted t (a ++ b)
unfolding counted
counted_append t a b =
    tally_of_lem (counted (counted t a) b) (t.kept + count 0 (a ++ b)) (t.lowered + count 1 (a ++ b)) (t.dropped + count 2 (a ++ b))
    (omega (arith, count_append 0 a b)) (omega (arith, count_append 1 a b)) (omega (arith, count_append 2 a b))

-- ---- parts one behind the other
pub gave_none : (book report : List ℕ) (t : Tally) → Gave (λ (f : ℕ → Line → List ℕ). []) book report t book report t
gave_none book report t =
    record { in_book = sym (append-nil book); in_report = sym (append-nil report); in_tally = counted_none t }

module _ {g h : (ℕ → Line → List ℕ) → List ℕ} {b p b' p' : List ℕ} {t t' : Tally} where
  pub gave_as : ((f : ℕ → Line → List ℕ) → g f ≡ h f) → Gave g b p t b' p' t' → Gave h b p t b' p' t'
  gave_as e w =
      record {
        in_book = w.in_book ∙ ap (λ (x : List ℕ). b ++ x) (e salvaged_line);
        in_report = w.in_report ∙ ap (λ (x : List ℕ). p ++ x) (e report_line);
        in_tally = w.in_tally ∙ ap (counted t) (e kind_line);
      }

  pub gave_then : {b'' p'' : List ℕ} {t'' : Tally} → Gave g b p t b' p' t' → Gave h b' p' t' b'' p'' t'' → Gave (λ (f : ℕ → Line → List ℕ). g f ++ h f) b p t b'' p'' t''
  gave_then w v =
      record {
        in_book = v.in_book ∙ ap (λ (x : List ℕ). x ++ h salvaged_line) w.in_book ∙ append_assoc b (g salvaged_line) (h salvaged_line);
        in_report = v.in_report ∙ ap (λ (x : List ℕ). x ++ h report_line) w.in_report ∙ append_assoc p (g report_line) (h report_line);
        in_tally = v.in_tally ∙ ap (λ (x : Tally). counted x (h kind_line)) w.in_tally ∙ counted_append t (g kind_line) (h kind_line);
      }

-- ---- a run of calls: pieces fed one after the other, each from the state that the one before left, then the end; what each gave is written at once
pub data Run : Reading → Tally → List (List ℕ) → List ℕ → List ℕ → Tally → Type 0 where
  ended : {r : Reading} {t t' : Tally} {book report : List ℕ} → Gave (λ (f : ℕ → Line → List ℕ). end_out f r) [] [] t book report t' → Run r t [] book report t'
  fed : {r : Reading} {t t' t'' : Tally} {piece book report book' report' : List ℕ} {pieces : List (List ℕ)}
      → Gave (λ (f : ℕ → Line → List ℕ). fed_out f r piece) [] [] t book report t' → Run (fed_state r piece) t' pieces book' report' t''
      → Run r t (piece ∷ pieces) (book ++ book') (report ++ report') t''

run_gave : {r : Reading} {t t' : Tally} {cs : List (List ℕ)} {book report : List ℕ} → Run r t cs book report t'
    → Gave (λ (f : ℕ → Line → List ℕ). pieces_out f r cs) [] [] t book report t'
unfolding pieces_out
run_gave (Run.ended w) = record { in_book = w.in_book; in_report = w.in_report; in_tally = w.in_tally }
run_gave (Run.fed {r} {t} {t'} {t''} {piece} {book} {report} {book'} {report'} {pieces} w v) =
    let x = run_gave v in
    record {
      in_book =
          ap (λ (l : List ℕ). l ++ book') w.in_book ∙ ap (λ (l : List ℕ). fed_out salvaged_line r piece ++ l) x.in_book;
      in_report =
          ap (λ (l : List ℕ). l ++ report') w.in_report ∙ ap (λ (l : List ℕ). fed_out report_line r piece ++ l) x.in_report;
      in_tally =
          x.in_tally
          ∙ ap (λ (u : Tally). counted u (pieces_out kind_line (fed_state r piece) pieces)) w.in_tally
          ∙ counted_append t (fed_out kind_line r piece) (pieces_out kind_line (fed_state r piece) pieces);
    }

-- THE law of a run: however the spoiled book is cut, the book, the report and the tally are those of the whole
pub run_whole : {cs : List (List ℕ)} {book report : List ℕ} {t : Tally} → Run begun no_lines cs book report t
    → (book ≡ salvaged (joined cs)) × (report ≡ salvage_report (joined cs)) × (t ≡ tallied (joined cs))
run_whole {cs} w =
    let x = run_gave w in (x.in_book ∙ salvaged_cut cs, x.in_report ∙ report_cut cs, x.in_tally ∙ tallied_cut cs)

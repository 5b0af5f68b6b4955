-- A piece of a spoiled book fed byte by byte: what its first bytes gave. Assumes nothing.
use Rattle.std.specs.Prelude.{ℕ, ◌+◌, ◌*◌, ◌≤◌, ◌<◌, ◌≡◌, refl, List, [], ◌++◌, length, take, get_or}
use Rattle.std.proofs.Common.{arith, ap, ◌∙◌}
use Rattle.book_lines.specs.Lines.{Line}
use Rattle.book_lines.specs.Steps.{Reading, reading, step_state, step_out, fed_state, fed_out}
use Rattle.book_lines.specs.CodeLaws.{fed_next, out_next, fed_all, out_all}
use Rattle.book_lines.specs.declared.pending.Pending.{Pending}
use Rattle.spoiled.specs.declared.tally.Tally.{Tally}
use Rattle.spoiled_book.specs.declared.salvage.Salvaging.{Salvaging}
use Rattle.spoiled.specs.Salvage.{all}
use Rattle.spoiled.specs.Gave.{Gave, gave_none, gave_as, gave_then}

-- ---- a piece: what its first i bytes gave, from s₀ with line₀ to s with line, book and report
pub record Feeding (piece line₀ line book report : List ℕ) (s₀ s : Salvaging) (i : ℕ) : Type 0 where
  pub state : reading line s.line ≡ fed_state (reading line₀ s₀.line) (take i piece)
  pub gave : Gave (λ (f : ℕ → Line → List ℕ). fed_out f (reading line₀ s₀.line) (take i piece)) [] [] s₀.tally (take s.book book) (take s.report report) s.tally
  pub holds : s.line.held ≤ 8469
  pub book_room : s.book + s.line.held ≤ s₀.line.held + i
  pub report_room : s.report ≤ 64 * i
  pub numbers : s.line.number ≤ s₀.line.number + i
  pub fewer : all s.tally < s.line.number

pub feeding_begun : (piece line book report : List ℕ) (p : Pending) (t : Tally) → p.held ≤ 8469 → all t < p.number
    → Feeding piece line line book report (record { line = p; tally = t; book = 0; report = 0 }) (record { line = p; tally = t; book = 0; report = 0 }) 0
unfolding fed_state fed_out
feeding_begun piece line book report p t h k =
    record {
      state = refl;
      gave = gave_none [] [] t;
      holds = h;
      book_room = omega arith;
      report_room = omega arith;
      numbers = omega arith;
      fewer = k;
    }

module _ (piece line₀ line line' book book' report report' : List ℕ) (s₀ s s' : Salvaging) (i : ℕ) (w : Feeding piece line₀ line book report s₀ s i) where
  pub feeding_more : i < length piece
      → reading line' s'.line ≡ step_state (reading line s.line) (get_or piece i 0)
      → Gave (λ (f : ℕ → Line → List ℕ). step_out f (reading line s.line) (get_or piece i 0)) (take s.book book) (take s.report report) s.tally (take s'.book book') (take s'.report report') s'.tally
      → s'.line.held ≤ 8469 → s'.book + s'.line.held ≤ s.book + s.line.held + 1 → s'.report ≤ s.report + 64 → s'.line.number ≤ s.line.number + 1
      → all s'.tally < s'.line.number
      → Feeding piece line₀ line' book' report' s₀ s' (i + 1)
  feeding_more h e g a b c d j =
      let r = reading line₀ s₀.line in
      let x = get_or piece i 0 in
      record {
        state = e ∙ ap (λ (q : Reading). step_state q x) w.state ∙ fed_next r piece i h;
        gave =
            gave_as (λ (f : ℕ → Line → List ℕ). ap (λ (q : Reading). fed_out f r (take i piece) ++ step_out f q x) w.state ∙ out_next r piece i h f)
            (gave_then w.gave g);
        holds = a;
        book_room = let z = w.book_room in omega arith;
        report_room = let z = w.report_room in omega arith;
        numbers = let z = w.numbers in omega arith;
        fewer = j;
      }

module _ (piece line₀ line book report : List ℕ) (s₀ s : Salvaging) (i : ℕ) (w : Feeding piece line₀ line book report s₀ s i) where
  pub feeding_state : length piece ≤ i → reading line s.line ≡ fed_state (reading line₀ s₀.line) piece
  feeding_state h = w.state ∙ fed_all (reading line₀ s₀.line) piece i h

  pub feeding_gave : length piece ≤ i
      → Gave (λ (f : ℕ → Line → List ℕ). fed_out f (reading line₀ s₀.line) piece) [] [] s₀.tally (take s.book book) (take s.report report) s.tally
  feeding_gave h = gave_as (out_all (reading line₀ s₀.line) piece i h) w.gave

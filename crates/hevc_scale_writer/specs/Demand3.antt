-- Demand 3 in its own words, of every answer that the writer's promise allows; and the two ways round. Assumes nothing.
use Rattle.std.specs.Prelude.{ℕ, ◌≤◌, ◌≡◌, List, ◌++◌, ℤ, length, take, drop, Result, Ok, Err}
use Rattle.std.proofs.Common.{sym, ap, subst, ◌∙◌, arith}
use Rattle.cabac.specs.Numbers.{accepted}
use Rattle.trees.specs.Outcome as every
use Rattle.hevc_residual.specs.Answers.{written_says}
use Rattle.hevc_writer.specs.Demand3.{told_list}
use Rattle.hevc_cross.specs.Entries.{component_refusal, read_bins, BinsWritten, write_bins}
use Rattle.hevc_cross.specs.Exact.{ReadsAs, scale_exactly, write_read, read_write}
use Rattle.hevc_scale.specs.EntriesAgree.{ReadList, bins_read, bins_written}

-- ---- demand 3: r is the answer, room' the room behind it
abbrev pub Exactly : ℕ → ℤ → List ℕ → Result ℕ ℕ → List ℕ → Type 0
Exactly c z room r room' = every.Exactly (0 ≡ component_refusal c) (λ l. ReadsAs c l z) room (written_says r) room'

module _ (c : ℕ) (z : ℤ) (room : List ℕ) (r : Result ℕ ℕ) (room' : List ℕ) (promise : bins_written r room' ≡ write_bins c z room) where
  -- the promise and its words
  pub promised : (bins_written r room' ≡ write_bins c z room) × Exactly c z room r room'
  promised = (
    promise,
    subst (λ (b : BinsWritten). every.Exactly (0 ≡ component_refusal c) (λ l. ReadsAs c l z) room b.answer b.room) (sym promise) (scale_exactly c z room),
  )

  -- what the writer writes, the bin reader accepts as the same scale: `read` is the reader's promise
  pub written_is_read : (n : ℕ) → r ≡ Ok n → (s : ReadList) → bins_read s ≡ read_bins (take n room') c → s ≡ Ok z
  written_is_read n q s read =
      told s
      (read ∙ ap (λ (b : BinsWritten). read_bins (take n b.room) c) promise
      ∙ write_read c z room n (sym (ap (λ (b : BinsWritten). b.answer) promise) ∙ ap written_says q))
    where
      told : (s : ReadList) → bins_read s ≡ accepted z → s ≡ Ok z
      told (Ok y) e = let u : y ≡ z = cc in ap Ok u
      told (Err m) e = let u : ◌≡◌ {A = ℕ} 0 1 = cc in absurd (omega arith)

-- what the bin reader accepts, the writer writes again, byte for byte: `read` and `promise` are their promises
pub read_is_written : (l : List ℕ) (c : ℕ) (z : ℤ) → bins_read (Ok z) ≡ read_bins l c → (room : List ℕ) → length l ≤ length room → (r : Result ℕ ℕ) (room' : List ℕ)
    → bins_written r room' ≡ write_bins c z room → (r ≡ Ok (length l)) × (room' ≡ l ++ drop (length l) room)
read_is_written l c z read room k r room' promise =
    let e = promise ∙ read_write l c z (sym read) room k in
    (told_list r (length l) (ap (λ (b : BinsWritten). b.answer) e), ap (λ (b : BinsWritten). b.room) e)

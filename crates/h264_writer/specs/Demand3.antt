-- Demand 3 in its own words, of every answer that the writer's promise allows; and the two ways round. Assumes nothing.
use Rattle.std.specs.Prelude.{ℕ, ◌≤◌, ◌≡◌, List, ◌++◌, ℤ, length, take, drop, Ok, Err}
use Rattle.std.proofs.Common.{sym, ap, subst, ◌∙◌, arith}
use Rattle.cabac.specs.Numbers.{accepted}
use Rattle.trees.specs.Levels.{greatest_of}
use Rattle.trees.specs.Outcome as every
use Rattle.h264_block.specs.Entries.{block_refusal, block_with, read_bins, wanted_from, BinsWritten, write_bins}
use Rattle.h264_block.specs.Writable.{ReadsAs}
use Rattle.h264_block.proofs.Exact.{block_exactly, write_read, read_write}
use Rattle.h264_writer.specs.EntriesPuts.{Listed, written_says, bins_written}

-- ---- demand 3: r is the answer, room' the room behind it
abbrev pub Exactly : List ℤ → List ℕ → Listed → List ℕ → Type 0
Exactly lent room r room' = every.Exactly (0 ≡ block_refusal lent) (λ l. ReadsAs l (wanted_from lent)) room (written_says r) room'

pub told_list : (r : Listed) (n : ℕ) → written_says r ≡ accepted n → r ≡ Ok n
told_list (Ok m) n q = let e : m ≡ n = cc in ap Ok e
told_list (Err m) n q = let z : ◌≡◌ {A = ℕ} 0 1 = cc in absurd (omega arith)

module _ (lent : List ℤ) (room : List ℕ) (r : Listed) (room' : List ℕ) (promise : bins_written r room' ≡ write_bins lent room) where
  -- the promise and its words
  pub promised : (bins_written r room' ≡ write_bins lent room) × Exactly lent room r room'
  promised = (
    promise,
    subst (λ (b : BinsWritten). every.Exactly (0 ≡ block_refusal lent) (λ l. ReadsAs l (wanted_from lent)) room b.answer b.room) (sym promise) (block_exactly lent room),
  )

  -- what the writer writes, the bin reader reads as the same 16 levels
  pub written_is_read : (n : ℕ) → r ≡ Ok n → (other : List ℤ) → 16 ≤ length other
      → read_bins (take n room') other ≡ record { answer = accepted (greatest_of (wanted_from lent)); block = block_with (wanted_from lent) other }
  written_is_read n q other k =
      ap (λ (b : BinsWritten). read_bins (take n b.room) other) promise
      ∙ write_read lent room n (sym (ap (λ (b : BinsWritten). b.answer) promise) ∙ ap written_says q) other k

-- what the bin reader accepts, the writer writes again, byte for byte: `promise` is its promise
pub read_is_written : (l : List ℕ) (lent : List ℤ) (g : ℕ) → (read_bins l lent).answer ≡ accepted g → (room : List ℕ) → length l ≤ length room → (r : Listed) (room' : List ℕ)
    → bins_written r room' ≡ write_bins (read_bins l lent).block room → (r ≡ Ok (length l)) × (room' ≡ l ++ drop (length l) room)
read_is_written l lent g read room k r room' promise =
    let e = promise ∙ read_write l lent g read room k in
    (told_list r (length l) (ap (λ (b : BinsWritten). b.answer) e), ap (λ (b : BinsWritten). b.room) e)

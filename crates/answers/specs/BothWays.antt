-- The two ways round, of every answer that the promises of `write_bins` and `read_bins` allow: what is written is read as the same block, and what is read is written
-- again, entry for entry. Assumes nothing.
use Rattle.std.specs.Prelude.{ℕ, ◌≤◌, ◌≡◌, refl, List, ◌++◌, Bool, ℤ, length, take, drop, Result, Ok, Err}
use Rattle.std.proofs.Common.{sym, ap, ◌∙◌, arith}
use Rattle.cabac.specs.Numbers.{Answer, accepted, refused}
use Rattle.hevc_residual.specs.declared.params.Params.{Params}
use Rattle.hevc_residual.specs.declared.params.Rdpcm.{Rdpcm}
use Rattle.hevc_residual.specs.Wanted.{area}
use Rattle.hevc_residual.specs.Entries.{Found, block_with, BinsRead, read_bins, BinsWritten, write_bins}
use Rattle.hevc_exact.specs.Exact.{ReadAgain, write_read, read_write}
use Rattle.hevc_residual.specs.Answers.{found_seen, bins_read}
use Rattle.hevc_residual.specs.declared.answers.Found as code
use Rattle.hevc_residual.specs.Answers.{written_says, bins_written}
use Rattle.hevc_writer.specs.Demand3.{told_list}

module _ (p : Params) (stats : List ℕ) (block : List ℤ) (skip : Bool) (rdpcm : Rdpcm) (room : List ℕ) (r : Result ℕ ℕ) (stats' room' : List ℕ)
    (promise : bins_written r stats' room' ≡ write_bins p stats block skip rdpcm room) where
  -- ---- what the writer writes, the bin reader accepts as the same block, skip, RDPCM and statistics: `read` is the reader's promise
  pub written_is_read : (n : ℕ) → r ≡ Ok n → (lent : List ℤ) → area p ≤ length lent → (s : Result code.Found ℕ) (stats'' : List ℕ) (lent' : List ℤ)
      → bins_read s stats'' lent' ≡ read_bins (take n room') stats p lent
      → (f : code.Found) × (s ≡ Ok f) × (f.skip ≡ skip) × (f.rdpcm ≡ rdpcm) × (stats'' ≡ stats') × (lent' ≡ block_with p (take (area p) block) lent)
  written_is_read n q lent k s stats'' lent' read =
      let a = write_read p stats block skip rdpcm room n (sym (ap (λ (b : BinsWritten). b.answer) promise) ∙ ap written_says q) lent k in
      let er : (write_bins p stats block skip rdpcm room).room ≡ room' = sym (ap (λ (b : BinsWritten). b.room) promise) in
      let es : (write_bins p stats block skip rdpcm room).stats ≡ stats' = sym (ap (λ (b : BinsWritten). b.stats) promise) in
      let e : bins_read s stats'' lent' ≡ record { answer = accepted a.found; stats = stats'; block = block_with p (take (area p) block) lent } =
      read ∙ ap (λ (z : List ℕ). read_bins (take n z) stats p lent) (sym er) ∙ a.reads
      ∙ ap (λ (z : List ℕ). record { answer = accepted a.found; stats = z; block = block_with p (take (area p) block) lent }) es in
      go a s e
    where
      go : (a : ReadAgain p stats block skip rdpcm room n lent) (s : Result code.Found ℕ) → bins_read s stats'' lent' ≡ record { answer = accepted a.found; stats = stats'; block = block_with p (take (area p) block) lent }
          → (f : code.Found) × (s ≡ Ok f) × (f.skip ≡ skip) × (f.rdpcm ≡ rdpcm) × (stats'' ≡ stats') × (lent' ≡ block_with p (take (area p) block) lent)
      go a (Ok f) e =
          let ea : Answer.accepted (found_seen f) ≡ Answer.accepted a.found = ap (λ (b : BinsRead). b.answer) e in
          let ef : found_seen f ≡ a.found = cc in
          let et : stats'' ≡ stats' = ap (λ (b : BinsRead). b.stats) e in
          let eb : lent' ≡ block_with p (take (area p) block) lent = ap (λ (b : BinsRead). b.block) e in
          (f, refl, ap (λ (g : Found). g.skip) ef ∙ a.skips, ap (λ (g : Found). g.rdpcm) ef ∙ a.explicit, et, eb)
      go a (Err m) e =
          let d : Answer.refused m ≡ Answer.accepted a.found = ap (λ (b : BinsRead). b.answer) e in
          let z : ◌≡◌ {A = ℕ} 0 1 = cc in
          absurd (omega arith)

-- ---- what the bin reader accepts, the writer writes again, entry for entry: `read` and `promise` are their promises
module _ (p : Params) (stats l : List ℕ) (lent : List ℤ) (f : code.Found) (stats' : List ℕ) (lent' : List ℤ)
    (read : bins_read (Ok f) stats' lent' ≡ read_bins l stats p lent) where
  pub read_is_written : (room : List ℕ) → length l ≤ length room → (r : Result ℕ ℕ) (stats'' room' : List ℕ)
      → bins_written r stats'' room' ≡ write_bins p stats lent' f.skip f.rdpcm room
      → (r ≡ Ok (length l)) × (stats'' ≡ stats') × (room' ≡ l ++ drop (length l) room)
  read_is_written room k r stats'' room' promise =
      let eb : (read_bins l stats p lent).block ≡ lent' = sym (ap (λ (b : BinsRead). b.block) read) in
      let es : (read_bins l stats p lent).stats ≡ stats' = sym (ap (λ (b : BinsRead). b.stats) read) in
      let ea : (read_bins l stats p lent).answer ≡ accepted (found_seen f) = sym (ap (λ (b : BinsRead). b.answer) read) in
      let again = read_write l stats p lent (found_seen f) ea room k in
      let e : bins_written r stats'' room' ≡ record { answer = accepted (length l); stats = stats'; room = l ++ drop (length l) room } =
      promise ∙ ap (λ (z : List ℤ). write_bins p stats z f.skip f.rdpcm room) (sym eb) ∙ again
      ∙ ap (λ (z : List ℕ). record { answer = accepted (length l); stats = z; room = l ++ drop (length l) room }) es in (
        told_list r (length l) (ap (λ (b : BinsWritten). b.answer) e),
        ap (λ (b : BinsWritten). b.stats) e,
        ap (λ (b : BinsWritten). b.room) e,
      )

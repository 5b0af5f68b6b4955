-- What the entry point promises, of what its code answers and leaves: the definition's answer; and accepted with n, the first n bytes of the room are read back as
-- the list says, by any reader with room for the block; refused, the room is as it was. Assumes nothing.
use Rattle.std.specs.Prelude.{ℕ, ◌≤◌, ◌≡◌, List, length, take, ℤ, Result, Ok, Err}
use Rattle.std.proofs.Common.{sym, ap, subst, ◌∙◌}
use Rattle.cabac.specs.Numbers.{refused}
use Rattle.trees.specs.Lent.{contexts_refusal}
use Rattle.packing.specs.Entries.{BinsPacked, not_packed}
use Rattle.packing.proofs.EntriesLaws.{refuses_is}
use Rattle.packer.specs.IntoCode.{packing_says}
use Rattle.h264_block.specs.Block.{block}
use Rattle.h264_packer.specs.Entries.{pack_bins}
use Rattle.h264_packer.specs.ReadAgain.{ReadAgain, pack_is_read}

abbrev pub ReadsBack : List ℕ → List ℕ → List ℕ → Result ℕ ℕ → List ℕ → Type 0
ReadsBack contexts list room (Ok n) room' = (lent : List ℤ) → 16 ≤ length lent → ReadAgain (take n room') contexts list lent
ReadsBack contexts list room (Err n) room' = room' ≡ room

module _ (contexts list room : List ℕ) where
  bins_refused : (n : ℕ) → (pack_bins contexts list room).answer ≡ refused n → pack_bins contexts list room ≡ not_packed n room
  unfolding pack_bins
  bins_refused n q = refuses_is block contexts list room n (contexts_refusal contexts) q

  pub promised : (r : Result ℕ ℕ) (room' : List ℕ) → packing_says r room' ≡ pack_bins contexts list room
      → (packing_says r room' ≡ pack_bins contexts list room) × ReadsBack contexts list room r room'
  promised (Ok n) room' q = (
    q,
    λ lent h. subst (λ (l : List ℕ). ReadAgain (take n l) contexts list lent) (sym (ap (λ (z : BinsPacked). z.room) q))
        (pack_is_read contexts list room n lent (ap (λ (z : BinsPacked). z.answer) (sym q)) h),
  )
  promised (Err n) room' q = (q, ap (λ (z : BinsPacked). z.room) (q ∙ bins_refused n (ap (λ (z : BinsPacked). z.answer) (sym q))))

-- What an entry point that packs promises, of what its code answers and leaves: the definition's answer; and accepted with n, the first n bytes of the room
-- are read back as the list says, by any reader with room for the block; refused, the room is as it was. Assumes nothing.
use Rattle.std.specs.Prelude.{ℕ, ◌≤◌, ◌≡◌, refl, List, length, take, ℤ, Result, Ok, Err}
use Rattle.std.proofs.Common.{sym, ap, subst, ◌∙◌}
use Rattle.cabac.specs.Numbers.{accepted, refused}
use Rattle.hevc_residual.specs.declared.params.Params.{Params}
use Rattle.hevc_residual.specs.Wanted.{area}
use Rattle.hevc_residual.specs.Residual.{residual}
use Rattle.hevc_cross.specs.Scale.{scale}
use Rattle.packing.specs.Entries.{BinsPacked, not_packed}
use Rattle.packing.proofs.EntriesLaws.{refuses_is}
use Rattle.packer.specs.IntoCode.{packing_says}
use Rattle.hevc_packer.specs.Entries.{pack_checks, pack_bins, scale_checks, pack_scale}
use Rattle.hevc_packer.specs.ReadAgain.{ReadAgain, pack_is_read, ScaleAgain, scale_is_read}

abbrev pub ReadsBack : List ℕ → List ℕ → Params → List ℕ → List ℕ → Result ℕ ℕ → List ℕ → Type 0
ReadsBack contexts stats p list room (Ok n) room' = (block : List ℤ) → area p ≤ length block → ReadAgain (take n room') contexts stats p list block
ReadsBack contexts stats p list room (Err n) room' = room' ≡ room

abbrev pub ScaleBack : List ℕ → ℕ → List ℕ → List ℕ → Result ℕ ℕ → List ℕ → Type 0
ScaleBack contexts c list room (Ok n) room' = ScaleAgain (take n room') contexts c list
ScaleBack contexts c list room (Err n) room' = room' ≡ room

answer_of_lem : (x y : BinsPacked) → x ≡ y → y.answer ≡ x.answer
answer_of_lem x y q = ap (λ (z : BinsPacked). z.answer) (sym q)

room_of : (x y : BinsPacked) → x ≡ y → x.room ≡ y.room
room_of x y q = ap (λ (z : BinsPacked). z.room) q

module _ (contexts stats : List ℕ) (p : Params) (list room : List ℕ) where
  bins_refused : (n : ℕ) → (pack_bins contexts stats p list room).answer ≡ refused n → pack_bins contexts stats p list room ≡ not_packed n room
  unfolding pack_bins
  bins_refused n q = refuses_is (residual p stats) contexts list room n (pack_checks contexts stats p) q

  pub promised : (r : Result ℕ ℕ) (room' : List ℕ) → packing_says r room' ≡ pack_bins contexts stats p list room
      → (packing_says r room' ≡ pack_bins contexts stats p list room) × ReadsBack contexts stats p list room r room'
  promised (Ok n) room' q = (
    q,
    λ block h. subst (λ (l : List ℕ). ReadAgain (take n l) contexts stats p list block) (sym (room_of _ _ q))
        (pack_is_read contexts stats p list room n block (answer_of_lem _ _ q) h),
  )
  promised (Err n) room' q = (q, room_of _ _ (q ∙ bins_refused n (answer_of_lem _ _ q)))

module _ (contexts : List ℕ) (c : ℕ) (list room : List ℕ) where
  scale_refused : (n : ℕ) → (pack_scale contexts c list room).answer ≡ refused n → pack_scale contexts c list room ≡ not_packed n room
  unfolding pack_scale
  scale_refused n q = refuses_is (scale c) contexts list room n (scale_checks contexts c) q

  pub scale_promised : (r : Result ℕ ℕ) (room' : List ℕ) → packing_says r room' ≡ pack_scale contexts c list room
      → (packing_says r room' ≡ pack_scale contexts c list room) × ScaleBack contexts c list room r room'
  scale_promised (Ok n) room' q =
      (q, subst (λ (l : List ℕ). ScaleAgain (take n l) contexts c list) (sym (room_of _ _ q)) (scale_is_read contexts c list room n (answer_of_lem _ _ q)))
  scale_promised (Err n) room' q = (q, room_of _ _ (q ∙ scale_refused n (answer_of_lem _ _ q)))

-- A frame that is pressed is as long as it says, and no longer than a line may be. Assumes nothing.
use Rattle.std.specs.Prelude.{ℕ, zero, suc, ◌+◌, ◌*◌, ◌/◌, ◌%◌, ◌≤◌, ◌≡◌, refl, List, [], ◌∷◌, ◌++◌, length, take, drop, replicate, ℤ}
use Rattle.std.proofs.Common.{arith, sym, subst, ◌∙◌, length-take}
use Rattle.std.proofs.Math.Path.{ap}
use Rattle.std.proofs.Math.ListN.{get_or, length-append}
use Rattle.std.proofs.lemmas.List.{length-replicate}
use Rattle.std.proofs.Math.Seq.{get_or-append-add}
use Rattle.bins.specs.Tags.{context_count}
use Rattle.cabac.specs.Numbers.{accepted}
use Rattle.hevc_residual.specs.Residual.{residual}
use Rattle.packing.proofs.EntriesLaws.{accepts_is}
use Rattle.hevc_packer.specs.Entries.{pack_checks, pack_bins}
use Rattle.frame.specs.Frame.{byte_of, params_of}
use Rattle.press_frame.specs.Pressed.{frame_of, no_statistics, contexts_of, packed_for}

-- how long it is, by its own field
pub record Long (f : List ℕ) : Type 0 where
  pub least : 138 ≤ length f
  pub most : length f ≤ 4234
  pub field : length f ≡ 138 + (byte_of f 6 * 256 + byte_of f 7)

module _ (head values payload : List ℕ) (six : length head ≡ 6) (many : length values ≡ context_count) where
  abbrev behind : List ℕ
  behind = (length payload / 256 ∷ length payload % 256 ∷ []) ++ (values ++ payload)

  frame_length : length (frame_of head values payload) ≡ 138 + length payload
  unfolding frame_of
  frame_length = omega (arith, length-append head behind, length-append values payload)

  high_byte : byte_of (frame_of head values payload) 6 ≡ length payload / 256
  unfolding frame_of
  high_byte = ap (λ (k : ℕ). get_or (head ++ behind) (k + 0) 0) (sym six) ∙ get_or-append-add head behind 0 0

  low_byte : byte_of (frame_of head values payload) 7 ≡ length payload % 256
  unfolding frame_of
  low_byte = ap (λ (k : ℕ). get_or (head ++ behind) (k + 1) 0) (sym six) ∙ get_or-append-add head behind 1 0

  pub frame_long : length payload ≤ 4096 → Long (frame_of head values payload)
  frame_long h =
      let n = frame_length in
      let a = high_byte in
      let b = low_byte in
      record { least = omega arith; most = omega arith; field = omega arith }

pub packed_few : (head values bins : List ℕ) (m : ℕ) → (packed_for head values bins).answer ≡ accepted m → length (take m (packed_for head values bins).room) ≤ 4096
unfolding pack_bins
packed_few head values bins m q =
    let k = accepts_is (residual (params_of head) no_statistics) (contexts_of head values) bins (replicate 4096 0) m (pack_checks (contexts_of head values) no_statistics (params_of head)) q in
    omega (arith, k.fits, length-replicate {A = ℕ} 4096 0, length-take m (packed_for head values bins).room)

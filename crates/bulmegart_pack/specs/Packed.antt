-- What the entry points that pack answer and leave behind in C's form.
use Prim.Native.Nat.{ℕ, zero, suc}
use Rattle.std.specs.Prelude.{◌≡◌, List, Result, Ok, Err}
use Rattle.std.proofs.Math.Path.{refl, ap}
use Rattle.std.proofs.Common.{sym, ◌∙◌, arith}
use Rattle.cabac.specs.Numbers.{Answer, accepted, refused}
use Rattle.hevc_residual.specs.declared.params.Params.{Params}
use Rattle.hevc_residual.specs.Answers.{written_says}
use Rattle.packing.specs.Entries.{BinsPacked}
use Rattle.packer.specs.IntoCode.{packing_says}
use Rattle.hevc_packer.specs.Entries.{pack_bins}
use Rattle.bulmegart.specs.declared.records.BlockParams.{BlockParams}
use Rattle.bulmegart_blocks.specs.declared.lists.WriteAnswer.{WriteAnswer}
use Rattle.bulmegart.specs.Records.{params_flags, params_of}
use Rattle.bulmegart_blocks.specs.Lists.{write_given, written_like}

abbrev pub packing_answer : Result ℕ ℕ → Answer ℕ
packing_answer (Ok n) = accepted n
packing_answer (Err n) = refused n

-- a packed list is answered as a written one
pub packed_same : (r : Result ℕ ℕ) → write_given (written_says r) ≡ write_given (packing_answer r)
packed_same = written_like packing_answer (λ n. refl) (λ n. refl)

pub record PackLeft : Type 0 where
  pub answer : WriteAnswer
  pub room : List ℕ

abbrev pub pack_left : WriteAnswer → List ℕ → PackLeft
pack_left answer room = record { answer = answer; room = room }

abbrev pub pack_seen : BinsPacked → PackLeft
pack_seen r = pack_left (write_given r.answer) r.room

-- 4 of the flags, then as request (i) has it
unfoldable pub pack_block_by : ℕ → List ℕ → List ℕ → BlockParams → List ℕ → List ℕ → PackLeft
pack_block_by zero contexts stats p list room = pack_seen (pack_bins contexts stats (params_of p) list room)
pack_block_by (suc n) contexts stats p list room = pack_left (write_given (refused (suc n))) room

unfoldable pub pack_block : List ℕ → List ℕ → BlockParams → List ℕ → List ℕ → PackLeft
pack_block contexts stats p list room = pack_block_by (params_flags p) contexts stats p list room

-- ---- as the code has it
pub answer_seen : (r : Result ℕ ℕ) (room : List ℕ) → pack_left (write_given (packing_answer r)) room ≡ pack_seen (packing_says r room)
answer_seen (Ok n) room = refl
answer_seen (Err n) room = refl

pub seen : (a : WriteAnswer) (r : Result ℕ ℕ) (room : List ℕ) (x : BinsPacked) → a ≡ write_given (packing_answer r) → packing_says r room ≡ x → pack_left a room ≡ pack_seen x
seen a r room x p q = ap (λ z. pack_left z room) p ∙ answer_seen r room ∙ ap pack_seen q

module _ (contexts stats : List ℕ) (p : BlockParams) (list room : List ℕ) where
  pub pack_no : (n : ℕ) (a : WriteAnswer) → n ≡ params_flags p → (n ≡ 0 → ⊥) → a ≡ write_given (refused n) → pack_left a room ≡ pack_block contexts stats p list room
  unfolding pack_block pack_block_by
  pack_no n a q h e = ap (λ z. pack_left z room) e ∙ go n h ∙ ap (λ k. pack_block_by k contexts stats p list room) q
    where
      go : (n : ℕ) → (n ≡ 0 → ⊥) → pack_left (write_given (refused n)) room ≡ pack_block_by n contexts stats p list room
      go zero h = absurd (h refl)
      go (suc n) h = refl

  pub pack_yes : (n : ℕ) (a : WriteAnswer) (r : Result ℕ ℕ) (q : Params) (room' : List ℕ) → n ≡ params_flags p → n ≡ 0 → q ≡ params_of p
      → packing_says r room' ≡ pack_bins contexts stats q list room → a ≡ write_given (packing_answer r) → pack_left a room' ≡ pack_block contexts stats p list room
  unfolding pack_block pack_block_by
  pack_yes n a r q room' e z eq promise ea =
      seen a r room' (pack_bins contexts stats (params_of p) list room) ea (promise ∙ ap (λ (u : Params). pack_bins contexts stats u list room) eq)
      ∙ ap (λ k. pack_block_by k contexts stats p list room) (sym z ∙ e)

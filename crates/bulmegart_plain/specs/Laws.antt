-- Laws of the plain functions: an answer for each way out. They assume nothing.
use Prim.Native.Nat.{ℕ, zero, suc}
use Rattle.std.specs.Prelude.{◌≡◌, List, Bool, ℤ, Result, Ok, Err}
use Rattle.std.proofs.Math.Path.{refl, sym, ap}
use Rattle.std.proofs.Common.{◌∙◌, arith}
use Rattle.bins.specs.declared.state.Engine.{Engine}
use Rattle.cabac.specs.Numbers.{Answer, refused, ◌or_else◌, payload_refusal}
use Rattle.hevc_residual.specs.declared.params.Params.{Params}
use Rattle.hevc_residual.specs.declared.params.Rdpcm.{Rdpcm}
use Rattle.hevc_residual.specs.declared.answers.ReadBlock.{ReadBlock}
use Rattle.hevc_residual.specs.declared.answers.Found as code
use Rattle.hevc_residual.specs.Answers.{payload_read, bins_read}
use Rattle.hevc_residual.specs.Answers.{written_says, bins_written}
use Rattle.hevc_plain.specs.Plain.{read_plain, read_plain_bins, write_plain, plain_record}
use Rattle.bulmegart.specs.declared.records.EngineState.{EngineState}
use Rattle.bulmegart.specs.declared.records.BlockParams.{BlockParams}
use Rattle.bulmegart_blocks.specs.declared.blocks.BlockAnswer.{BlockAnswer}
use Rattle.bulmegart_blocks.specs.declared.blocks.ListAnswer.{ListAnswer}
use Rattle.bulmegart_blocks.specs.declared.lists.WriteAnswer.{WriteAnswer}
use Rattle.bulmegart.specs.Records.{flag_refusal, state_flags, params_flags, engine_of, params_of, is_set}
use Rattle.bulmegart.specs.Records.{behind}
use Rattle.bulmegart_blocks.specs.Blocks.{block_left, block_seen, block_given, read_says, list_left, list_seen, list_given, list_says}
use Rattle.bulmegart_blocks.specs.Lists.{choice_refusal, choice_of, write_left, write_seen, write_given}
use Rattle.bulmegart_plain.specs.declared.plain.ParamsAnswer.{ParamsAnswer}
use Rattle.bulmegart_plain.specs.Plain.{read_plain_block_by, read_plain_block, read_plain_list_by, read_plain_list, write_plain_block_by, write_plain_block, record_given, record_flags, plain_params}

-- ---- the payload reader
block_seen_lem : (s : EngineState) (r : Result ReadBlock ℕ) (cs stats : List ℕ) (b : List ℤ)
    → block_seen s (payload_read r cs stats b) ≡ block_left (block_given s (read_says r)) cs stats b
block_seen_lem s (Ok f) cs stats b = refl
block_seen_lem s (Err n) cs stats b = refl

module _ (l : List ℕ) (s : EngineState) (cs stats : List ℕ) (p : BlockParams) (block : List ℤ) (n : ℕ) (a : BlockAnswer) where
  by_no : (k : ℕ) → n ≡ k → (n ≡ 0 → ⊥) → a ≡ block_given s (refused n) → block_left a cs stats block ≡ read_plain_block_by k l s cs stats p block
  unfolding read_plain_block_by
  by_no zero q h e = absurd (h q)
  by_no (suc k) q h e = ap (λ x. block_left x cs stats block) (e ∙ ap (λ m. block_given s (refused m)) q)

  pub block_no : n ≡ (payload_refusal l or_else state_flags s or_else params_flags p) → (n ≡ 0 → ⊥) → a ≡ block_given s (refused n)
      → block_left a cs stats block ≡ read_plain_block l s cs stats p block
  unfolding read_plain_block
  block_no q h e = by_no (payload_refusal l or_else state_flags s or_else params_flags p) q h e

  by_yes : (k : ℕ) (r : Result ReadBlock ℕ) (e : Engine) (params : Params) (cs' stats' : List ℕ) (block' : List ℤ)
      → n ≡ k → n ≡ 0 → e ≡ engine_of s → params ≡ params_of p
      → payload_read r cs' stats' block' ≡ read_plain l e cs stats params block
      → a ≡ block_given s (read_says r)
      → block_left a cs' stats' block' ≡ read_plain_block_by k l s cs stats p block
  unfolding read_plain_block_by
  by_yes zero r e params cs' stats' block' q z h w t g =
      ap (λ x. block_left x cs' stats' block') g ∙ sym (block_seen_lem s r cs' stats' block') ∙ ap (block_seen s) t
      ∙ ap (λ (x : Engine). block_seen s (read_plain l x cs stats params block)) h
      ∙ ap (λ (x : Params). block_seen s (read_plain l (engine_of s) cs stats x block)) w
  by_yes (suc k) r e params cs' stats' block' q z h w t g = absurd (omega arith)

  pub block_yes : (r : Result ReadBlock ℕ) (e : Engine) (params : Params) (cs' stats' : List ℕ) (block' : List ℤ)
      → n ≡ (payload_refusal l or_else state_flags s or_else params_flags p) → n ≡ 0 → e ≡ engine_of s → params ≡ params_of p
      → payload_read r cs' stats' block' ≡ read_plain l e cs stats params block
      → a ≡ block_given s (read_says r)
      → block_left a cs' stats' block' ≡ read_plain_block l s cs stats p block
  unfolding read_plain_block
  block_yes = by_yes (payload_refusal l or_else state_flags s or_else params_flags p)

-- ---- the bin reader
list_seen_lem : (r : Result code.Found ℕ) (stats : List ℕ) (b : List ℤ) → list_seen (bins_read r stats b) ≡ list_left (list_given (list_says r)) stats b
list_seen_lem (Ok f) stats b = refl
list_seen_lem (Err n) stats b = refl

module _ (l stats : List ℕ) (p : BlockParams) (block : List ℤ) (n : ℕ) (a : ListAnswer) where
  list_by_no : (k : ℕ) → n ≡ k → (n ≡ 0 → ⊥) → a ≡ list_given (refused n) → list_left a stats block ≡ read_plain_list_by k l stats p block
  unfolding read_plain_list_by
  list_by_no zero q h e = absurd (h q)
  list_by_no (suc k) q h e = ap (λ x. list_left x stats block) (e ∙ ap (λ m. list_given (refused m)) q)

  pub list_no_lem : n ≡ params_flags p → (n ≡ 0 → ⊥) → a ≡ list_given (refused n) → list_left a stats block ≡ read_plain_list l stats p block
  unfolding read_plain_list
  list_no_lem = list_by_no (params_flags p)

  list_by_yes : (k : ℕ) (r : Result code.Found ℕ) (params : Params) (stats' : List ℕ) (block' : List ℤ)
      → n ≡ k → n ≡ 0 → params ≡ params_of p
      → bins_read r stats' block' ≡ read_plain_bins l stats params block
      → a ≡ list_given (list_says r)
      → list_left a stats' block' ≡ read_plain_list_by k l stats p block
  unfolding read_plain_list_by
  list_by_yes zero r params stats' block' q z w t g =
      ap (λ x. list_left x stats' block') g ∙ sym (list_seen_lem r stats' block') ∙ ap list_seen t
      ∙ ap (λ (x : Params). list_seen (read_plain_bins l stats x block)) w
  list_by_yes (suc k) r params stats' block' q z w t g = absurd (omega arith)

  pub list_yes : (r : Result code.Found ℕ) (params : Params) (stats' : List ℕ) (block' : List ℤ)
      → n ≡ params_flags p → n ≡ 0 → params ≡ params_of p
      → bins_read r stats' block' ≡ read_plain_bins l stats params block
      → a ≡ list_given (list_says r)
      → list_left a stats' block' ≡ read_plain_list l stats p block
  unfolding read_plain_list
  list_yes = list_by_yes (params_flags p)

-- ---- the writer
module _ (p : BlockParams) (stats : List ℕ) (block : List ℤ) (skip choice : ℕ) (room : List ℕ) where
  pub write_no_lem : (n : ℕ) (a : WriteAnswer) → n ≡ (params_flags p or_else flag_refusal skip or_else choice_refusal choice) → (n ≡ 0 → ⊥)
      → a ≡ write_given (refused n) → write_left a stats room ≡ write_plain_block p stats block skip choice room
  unfolding write_plain_block write_plain_block_by
  write_no_lem n a q h e = ap (λ z. write_left z stats room) e ∙ go n h ∙ ap (λ k. write_plain_block_by k p stats block skip choice room) q
    where
      go : (n : ℕ) → (n ≡ 0 → ⊥) → write_left (write_given (refused n)) stats room ≡ write_plain_block_by n p stats block skip choice room
      go zero h = absurd (h refl)
      go (suc n) h = refl

  pub write_yes : (n : ℕ) (a : WriteAnswer) (r : Result ℕ ℕ) (q : Params) (s : Bool) (c : Rdpcm) (stats' room' : List ℕ)
      → n ≡ (params_flags p or_else flag_refusal skip or_else choice_refusal choice) → n ≡ 0 → q ≡ params_of p → s ≡ is_set skip → c ≡ choice_of choice
      → bins_written r stats' room' ≡ write_plain q stats block s c room → a ≡ write_given (written_says r)
      → write_left a stats' room' ≡ write_plain_block p stats block skip choice room
  unfolding write_plain_block write_plain_block_by
  write_yes n a r q s c stats' room' e z eq es ec promise ea =
      let o : 0 ≡ (params_flags p or_else flag_refusal skip or_else choice_refusal choice) = sym z ∙ e in
      let same : write_plain q stats block s c room ≡ write_plain (params_of p) stats block (is_set skip) (choice_of choice) room =
      ap (λ (u : Params). write_plain u stats block s c room) eq ∙ ap (λ (u : Bool). write_plain (params_of p) stats block u c room) es
      ∙ ap (λ (u : Rdpcm). write_plain (params_of p) stats block (is_set skip) u room) ec in
      ap (λ u. write_left u stats' room') ea ∙ ap write_seen (promise ∙ same)
      ∙ ap (λ k. write_plain_block_by k p stats block skip choice room) o

-- ---- a plain record
module _ (log2 scan luma hiding skipAllowed lossless inter : ℕ) where
  abbrev made : Answer Params
  made = plain_record log2 (is_set luma) scan (is_set hiding) (is_set skipAllowed) (is_set lossless) (is_set inter)

  pub record_no : (n : ℕ) (a : ParamsAnswer) → n ≡ record_flags luma hiding skipAllowed lossless inter → (n ≡ 0 → ⊥) → a ≡ record_given (refused n)
      → a ≡ plain_params log2 scan luma hiding skipAllowed lossless inter
  unfolding plain_params
  record_no n a q h e = e ∙ go (record_flags luma hiding skipAllowed lossless inter) q
    where
      go : (k : ℕ) → n ≡ k → record_given (refused n) ≡ record_given (behind k made)
      go zero q = absurd (h q)
      go (suc k) q = unfold behind in ap (λ m. record_given (refused m)) q

  -- luma to inter as they were handed on
  pub record_yes : (n : ℕ) (a : ParamsAnswer) (u v w x y : Bool) (said : Answer Params) → n ≡ record_flags luma hiding skipAllowed lossless inter → n ≡ 0
      → u ≡ is_set luma → v ≡ is_set hiding → w ≡ is_set skipAllowed → x ≡ is_set lossless → y ≡ is_set inter
      → said ≡ plain_record log2 u scan v w x y → a ≡ record_given said → a ≡ plain_params log2 scan luma hiding skipAllowed lossless inter
  unfolding plain_params
  record_yes n a u v w x y said q z eu ev ew ex ey promise e =
      e ∙ ap record_given (promise ∙ same) ∙ go (record_flags luma hiding skipAllowed lossless inter) (sym z ∙ q)
    where
      same : plain_record log2 u scan v w x y ≡ made
      same = rw (eu, ev, ew, ex, ey) refl

      go : (k : ℕ) → 0 ≡ k → record_given made ≡ record_given (behind k made)
      go zero q = unfold behind in refl
      go (suc k) q = absurd (omega arith)

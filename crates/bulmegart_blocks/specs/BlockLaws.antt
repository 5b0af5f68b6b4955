-- The two block readers: an answer for each way out. They assume nothing.
use Prim.Native.Nat.{ℕ, zero, suc, ◌+◌, ◌-◌, ◌≤◌, ◌<◌}
use Rattle.std.specs.Prelude.{◌≡◌, refl, Bool, true, false, cond, List, [], ◌∷◌, ℤ, Result, Ok, Err}
use Rattle.std.proofs.Math.Path.{sym, ap}
use Rattle.std.proofs.Common.{subst, ◌∙◌, arith}
use Rattle.bins.specs.declared.state.Engine.{Engine}
use Rattle.cabac.specs.Numbers.{accepted, refused, ◌or_else◌, payload_refusal}
use Rattle.hevc_residual.specs.declared.params.Params.{Params}
use Rattle.hevc_residual.specs.Entries.{read_payload, read_bins}
use Rattle.hevc_residual.specs.declared.answers.ReadBlock.{ReadBlock}
use Rattle.hevc_residual.specs.declared.answers.Found as code
use Rattle.hevc_residual.specs.Answers.{payload_read, bins_read}
use Rattle.bulmegart.specs.declared.records.EngineState.{EngineState}
use Rattle.bulmegart.specs.declared.records.BlockParams.{BlockParams}
use Rattle.bulmegart.specs.Records.{state_flags, params_flags, engine_of, params_of}
use Rattle.bulmegart_blocks.specs.declared.blocks.BlockAnswer.{BlockAnswer}
use Rattle.bulmegart_blocks.specs.declared.blocks.ListAnswer.{ListAnswer}
use Rattle.bulmegart_blocks.specs.Blocks.{BlockLeft, block_left, block_seen, block_given, read_says, read_block, read_block_by, ListLeft, list_left, list_seen, list_given, list_says, read_list, read_list_by}

-- ---- a block
block_seen_lem : (s : EngineState) (r : Result ReadBlock ℕ) (cs stats : List ℕ) (b : List ℤ)
    → block_seen s (payload_read r cs stats b) ≡ block_left (block_given s (read_says r)) cs stats b
block_seen_lem s (Ok f) cs stats b = refl
block_seen_lem s (Err n) cs stats b = refl

list_seen_lem : (r : Result code.Found ℕ) (stats : List ℕ) (b : List ℤ) → list_seen (bins_read r stats b) ≡ list_left (list_given (list_says r)) stats b
list_seen_lem (Ok f) stats b = refl
list_seen_lem (Err n) stats b = refl

module _ (l : List ℕ) (s : EngineState) (cs stats : List ℕ) (p : BlockParams) (block : List ℤ) (n : ℕ) (a : BlockAnswer) where
  by_no : (k : ℕ) → n ≡ k → (n ≡ 0 → ⊥) → a ≡ block_given s (refused n) → block_left a cs stats block ≡ read_block_by k l s cs stats p block
  unfolding read_block_by
  by_no zero q h e = absurd (h q)
  by_no (suc k) q h e = ap (λ x. block_left x cs stats block) (e ∙ ap (λ m. block_given s (refused m)) q)

  pub block_no : n ≡ (payload_refusal l or_else state_flags s or_else params_flags p) → (n ≡ 0 → ⊥) → a ≡ block_given s (refused n)
      → block_left a cs stats block ≡ read_block l s cs stats p block
  unfolding read_block
  block_no q h e = by_no (payload_refusal l or_else state_flags s or_else params_flags p) q h e

  by_yes : (k : ℕ) (r : Result ReadBlock ℕ) (e : Engine) (params : Params) (cs' stats' : List ℕ) (block' : List ℤ)
      → n ≡ k → n ≡ 0 → e ≡ engine_of s → params ≡ params_of p
      → payload_read r cs' stats' block' ≡ read_payload l e cs stats params block
      → a ≡ block_given s (read_says r)
      → block_left a cs' stats' block' ≡ read_block_by k l s cs stats p block
  unfolding read_block_by
  by_yes zero r e params cs' stats' block' q z h w t g =
      ap (λ x. block_left x cs' stats' block') g ∙ sym (block_seen_lem s r cs' stats' block') ∙ ap (block_seen s) t
      ∙ ap (λ (x : Engine). block_seen s (read_payload l x cs stats params block)) h
      ∙ ap (λ (x : Params). block_seen s (read_payload l (engine_of s) cs stats x block)) w
  by_yes (suc k) r e params cs' stats' block' q z h w t g = absurd (omega arith)

  pub block_yes : (r : Result ReadBlock ℕ) (e : Engine) (params : Params) (cs' stats' : List ℕ) (block' : List ℤ)
      → n ≡ (payload_refusal l or_else state_flags s or_else params_flags p) → n ≡ 0 → e ≡ engine_of s → params ≡ params_of p
      → payload_read r cs' stats' block' ≡ read_payload l e cs stats params block
      → a ≡ block_given s (read_says r)
      → block_left a cs' stats' block' ≡ read_block l s cs stats p block
  unfolding read_block
  block_yes = by_yes (payload_refusal l or_else state_flags s or_else params_flags p)

module _ (l stats : List ℕ) (p : BlockParams) (block : List ℤ) (n : ℕ) (a : ListAnswer) where
  list_by_no : (k : ℕ) → n ≡ k → (n ≡ 0 → ⊥) → a ≡ list_given (refused n) → list_left a stats block ≡ read_list_by k l stats p block
  unfolding read_list_by
  list_by_no zero q h e = absurd (h q)
  list_by_no (suc k) q h e = ap (λ x. list_left x stats block) (e ∙ ap (λ m. list_given (refused m)) q)

  pub list_no_lem : n ≡ params_flags p → (n ≡ 0 → ⊥) → a ≡ list_given (refused n) → list_left a stats block ≡ read_list l stats p block
  unfolding read_list
  list_no_lem = list_by_no (params_flags p)

  list_by_yes : (k : ℕ) (r : Result code.Found ℕ) (params : Params) (stats' : List ℕ) (block' : List ℤ)
      → n ≡ k → n ≡ 0 → params ≡ params_of p
      → bins_read r stats' block' ≡ read_bins l stats params block
      → a ≡ list_given (list_says r)
      → list_left a stats' block' ≡ read_list_by k l stats p block
  unfolding read_list_by
  list_by_yes zero r params stats' block' q z w t g =
      ap (λ x. list_left x stats' block') g ∙ sym (list_seen_lem r stats' block') ∙ ap list_seen t
      ∙ ap (λ (x : Params). list_seen (read_bins l stats x block)) w
  list_by_yes (suc k) r params stats' block' q z w t g = absurd (omega arith)

  pub list_yes : (r : Result code.Found ℕ) (params : Params) (stats' : List ℕ) (block' : List ℤ)
      → n ≡ params_flags p → n ≡ 0 → params ≡ params_of p
      → bins_read r stats' block' ≡ read_bins l stats params block
      → a ≡ list_given (list_says r)
      → list_left a stats' block' ≡ read_list l stats p block
  unfolding read_list
  list_yes = list_by_yes (params_flags p)

-- The ways out of the readers into a kept block. Assumes nothing.
use Prim.Native.Nat.{ℕ, zero, suc}
use Rattle.std.specs.Prelude.{◌≡◌, refl, List, ℤ, Result, Ok, Err}
use Rattle.std.proofs.Common.{sym, ◌∙◌, arith}
use Rattle.std.proofs.Math.Path.{ap}
use Rattle.bins.specs.declared.state.Engine.{Engine}
use Rattle.cabac.specs.Numbers.{refused, ◌or_else◌, payload_refusal}
use Rattle.hevc_residual.specs.declared.params.Params.{Params}
use Rattle.hevc_residual.specs.declared.answers.ReadBlock.{ReadBlock}
use Rattle.hevc_residual.specs.declared.answers.Found as code
use Rattle.bulmegart.specs.declared.records.EngineState.{EngineState}
use Rattle.bulmegart.specs.declared.records.BlockParams.{BlockParams}
use Rattle.bulmegart_blocks.specs.declared.blocks.BlockAnswer.{BlockAnswer}
use Rattle.bulmegart_blocks.specs.declared.blocks.ListAnswer.{ListAnswer}
use Rattle.bulmegart.specs.Records.{state_flags, params_flags, engine_of, params_of}
use Rattle.bulmegart_blocks.specs.Blocks.{block_given, read_says, list_given, list_says}
use Rattle.hevc_summary.specs.declared.kept.Form.{Form}
use Rattle.hevc_summary.specs.declared.kept.Whole.{Whole}
use Rattle.hevc_summary.specs.declared.reading.ReadInto.{ReadInto}
use Rattle.hevc_summary.specs.declared.reading.ListInto.{ListInto}
use Rattle.hevc_summary.specs.Summary.{Kept}
use Rattle.hevc_summary.specs.Entries.{read_kept, list_kept}
use Rattle.hevc_summary.specs.Agree.{kept_of, kept_read, kept_list}
use Rattle.bulmegart_summary.specs.Readers.{BlockLeft, block_left, block_seen, read_block_by, read_block, ListLeft, list_left, list_seen, read_list_by, read_list}

-- ---- from a payload
block_seen_lem : (s : EngineState) (r : Result ReadBlock ℕ) (w : Whole) (cs stats : List ℕ) (levels : List ℤ) (counts sums : List ℕ)
    → block_left (record { block = block_given s (read_says r); whole = w }) cs stats levels counts sums
    ≡ block_seen s (kept_read (record { read = r; whole = w }) cs stats levels counts sums)
block_seen_lem s (Ok f) w cs stats levels counts sums = refl
block_seen_lem s (Err n) w cs stats levels counts sums = refl

module _ (f : Form) (l : List ℕ) (s : EngineState) (cs stats : List ℕ) (p : BlockParams) (levels : List ℤ) (counts sums : List ℕ) (w : Whole) (n : ℕ) (a : BlockAnswer) where
  abbrev checks : ℕ
  checks = payload_refusal l or_else state_flags s or_else params_flags p

  pub block_no : n ≡ (payload_refusal l or_else state_flags s or_else params_flags p) → (n ≡ 0 → ⊥) → a ≡ block_given s (refused n)
      → block_left (record { block = a; whole = w }) cs stats levels counts sums ≡ read_block f l s cs stats p (kept_of levels counts sums w)
  unfolding read_block
  block_no q h e = go checks q
    where
      go : (k : ℕ) → n ≡ k → block_left (record { block = a; whole = w }) cs stats levels counts sums ≡ read_block_by k f l s cs stats p (kept_of levels counts sums w)
      go zero u = absurd (h u)
      go (suc k) u = unfold read_block_by in ap (λ (x : BlockAnswer). block_left (record { block = x; whole = w }) cs stats levels counts sums) (e ∙ ap (λ m. block_given s (refused m)) u)

  pub block_yes : (r : ReadInto) (e : Engine) (params : Params) (cs' stats' : List ℕ) (levels' : List ℤ) (counts' sums' : List ℕ)
      → n ≡ (payload_refusal l or_else state_flags s or_else params_flags p) → n ≡ 0 → e ≡ engine_of s → params ≡ params_of p
      → kept_read r cs' stats' levels' counts' sums' ≡ read_kept f l e cs stats params (kept_of levels counts sums w)
      → a ≡ block_given s (read_says r.read)
      → block_left (record { block = a; whole = r.whole }) cs' stats' levels' counts' sums' ≡ read_block f l s cs stats p (kept_of levels counts sums w)
  unfolding read_block
  block_yes r e params cs' stats' levels' counts' sums' q z h u t g = go checks (sym z ∙ q)
    where
      go : (k : ℕ) → 0 ≡ k → block_left (record { block = a; whole = r.whole }) cs' stats' levels' counts' sums' ≡ read_block_by k f l s cs stats p (kept_of levels counts sums w)
      go zero v =
          unfold read_block_by in
          ap (λ (x : BlockAnswer). block_left (record { block = x; whole = r.whole }) cs' stats' levels' counts' sums') g
          ∙ block_seen_lem s r.read r.whole cs' stats' levels' counts' sums' ∙ ap (block_seen s) t
          ∙ ap (λ (x : Engine). block_seen s (read_kept f l x cs stats params (kept_of levels counts sums w))) h
          ∙ ap (λ (x : Params). block_seen s (read_kept f l (engine_of s) cs stats x (kept_of levels counts sums w))) u
      go (suc k) v = absurd (omega arith)

-- ---- from a bin list
list_seen_lem : (r : Result code.Found ℕ) (w : Whole) (stats : List ℕ) (levels : List ℤ) (counts sums : List ℕ)
    → list_left (record { list = list_given (list_says r); whole = w }) stats levels counts sums ≡ list_seen (kept_list (record { read = r; whole = w }) stats levels counts sums)
list_seen_lem (Ok f) w stats levels counts sums = refl
list_seen_lem (Err n) w stats levels counts sums = refl

module _ (f : Form) (l stats : List ℕ) (p : BlockParams) (levels : List ℤ) (counts sums : List ℕ) (w : Whole) (n : ℕ) (a : ListAnswer) where
  pub list_no_lem : n ≡ params_flags p → (n ≡ 0 → ⊥) → a ≡ list_given (refused n)
      → list_left (record { list = a; whole = w }) stats levels counts sums ≡ read_list f l stats p (kept_of levels counts sums w)
  unfolding read_list
  list_no_lem q h e = go (params_flags p) q
    where
      go : (k : ℕ) → n ≡ k → list_left (record { list = a; whole = w }) stats levels counts sums ≡ read_list_by k f l stats p (kept_of levels counts sums w)
      go zero u = absurd (h u)
      go (suc k) u = unfold read_list_by in ap (λ (x : ListAnswer). list_left (record { list = x; whole = w }) stats levels counts sums) (e ∙ ap (λ m. list_given (refused m)) u)

  pub list_yes : (r : ListInto) (params : Params) (stats' : List ℕ) (levels' : List ℤ) (counts' sums' : List ℕ)
      → n ≡ params_flags p → n ≡ 0 → params ≡ params_of p
      → kept_list r stats' levels' counts' sums' ≡ list_kept f l stats params (kept_of levels counts sums w)
      → a ≡ list_given (list_says r.read)
      → list_left (record { list = a; whole = r.whole }) stats' levels' counts' sums' ≡ read_list f l stats p (kept_of levels counts sums w)
  unfolding read_list
  list_yes r params stats' levels' counts' sums' q z u t g = go (params_flags p) (sym z ∙ q)
    where
      go : (k : ℕ) → 0 ≡ k → list_left (record { list = a; whole = r.whole }) stats' levels' counts' sums' ≡ read_list_by k f l stats p (kept_of levels counts sums w)
      go zero v =
          unfold read_list_by in
          ap (λ (x : ListAnswer). list_left (record { list = x; whole = r.whole }) stats' levels' counts' sums') g
          ∙ list_seen_lem r.read r.whole stats' levels' counts' sums' ∙ ap list_seen t
          ∙ ap (λ (x : Params). list_seen (list_kept f l stats x (kept_of levels counts sums w))) u
      go (suc k) v = absurd (omega arith)

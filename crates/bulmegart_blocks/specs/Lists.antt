-- What the writer of bins answers and leaves behind in C's form.
use Prim.Native.Nat.{ℕ, zero, suc, ◌≤◌, ◌<◌}
use Rattle.std.specs.Prelude.{◌≡◌, List, Bool, cond, ℤ, ltb, Result, Ok, Err}
use Rattle.std.proofs.Math.Path.{refl, sym, ap}
use Rattle.std.proofs.Common.{◌∙◌, arith, lt-ltb, le-ltb}
use Rattle.cabac.specs.Numbers.{Answer, accepted, refused, ◌or_else◌}
use Rattle.hevc_residual.specs.declared.params.Params.{Params}
use Rattle.hevc_residual.specs.declared.params.Rdpcm.{Rdpcm}
use Rattle.hevc_residual.specs.declared.params.Rdpcm.TheVariants as rdpcm
use Rattle.hevc_residual.specs.Entries.{BinsWritten, write_bins}
use Rattle.hevc_residual.specs.Answers.{written_says, bins_written}
use Rattle.bulmegart.specs.declared.records.BlockParams.{BlockParams}
use Rattle.bulmegart_blocks.specs.declared.lists.WriteAnswer.{WriteAnswer}
use Rattle.bulmegart.specs.Records.{flag_refusal, params_flags, params_of, is_set}

-- 4: an RDPCM choice above 2; 0 is none, 1 and 2 are document 01's 0 and 1
unfoldable pub choice_refusal : ℕ → ℕ
choice_refusal b = cond (ltb 2 b) 4 0

abbrev pub choice_of : ℕ → Rdpcm
choice_of zero = rdpcm.None
choice_of (suc zero) = rdpcm.Horizontal
choice_of (suc (suc n)) = rdpcm.Vertical

-- ---- the writer's answer as C has it
abbrev pub write_given : Answer ℕ → WriteAnswer
write_given (accepted n) = record { number = 0; length = n }
write_given (refused n) = record { number = n; length = 0 }

-- another writer that says the same of a length and of a number is answered so too
pub written_like : (f : Result ℕ ℕ → Answer ℕ) → ((n : ℕ) → accepted n ≡ f (Ok n)) → ((n : ℕ) → refused n ≡ f (Err n)) → (r : Result ℕ ℕ)
    → write_given (written_says r) ≡ write_given (f r)
written_like f lengths numbers (Ok n) = ap write_given (lengths n)
written_like f lengths numbers (Err n) = ap write_given (numbers n)

-- ---- the writer: 4 of the flags and of the choice, then as document 01 has it
pub record WriteLeft : Type 0 where
  pub answer : WriteAnswer
  pub stats : List ℕ
  pub room : List ℕ

abbrev pub write_left : WriteAnswer → List ℕ → List ℕ → WriteLeft
write_left answer stats room = record { answer = answer; stats = stats; room = room }

abbrev pub write_seen : BinsWritten → WriteLeft
write_seen r = write_left (write_given r.answer) r.stats r.room

unfoldable pub write_block_by : ℕ → BlockParams → List ℕ → List ℤ → ℕ → ℕ → List ℕ → WriteLeft
write_block_by zero p stats block skip choice room = write_seen (write_bins (params_of p) stats block (is_set skip) (choice_of choice) room)
write_block_by (suc n) p stats block skip choice room = write_left (write_given (refused (suc n))) stats room

unfoldable pub write_block : BlockParams → List ℕ → List ℤ → ℕ → ℕ → List ℕ → WriteLeft
write_block p stats block skip choice room =
    write_block_by (params_flags p or_else flag_refusal skip or_else choice_refusal choice) p stats block skip choice room

-- ---- as the code has it
pub choice_over : (b : ℕ) → 2 < b → 4 ≡ choice_refusal b
unfolding choice_refusal
choice_over b h = rw (lt-ltb 2 b h)

pub choice_fine : (b : ℕ) → b ≤ 2 → 0 ≡ choice_refusal b
unfolding choice_refusal
choice_fine b h = rw (le-ltb 2 b h)

pub choice_none : (b : ℕ) → b ≡ 0 → rdpcm.None ≡ choice_of b
choice_none b q = ap choice_of (sym q)

pub choice_one : (b : ℕ) → b ≡ 1 → rdpcm.Horizontal ≡ choice_of b
choice_one b q = ap choice_of (sym q)

pub choice_two : (b : ℕ) → (b ≡ 0 → ⊥) → (b ≡ 1 → ⊥) → rdpcm.Vertical ≡ choice_of b
choice_two zero h k = absurd (h refl)
choice_two (suc zero) h k = absurd (k refl)
choice_two (suc (suc n)) h k = refl

module _ (p : BlockParams) (stats : List ℕ) (block : List ℤ) (skip choice : ℕ) (room : List ℕ) where
  pub write_no_lem : (n : ℕ) (a : WriteAnswer) → n ≡ (params_flags p or_else flag_refusal skip or_else choice_refusal choice) → (n ≡ 0 → ⊥)
      → a ≡ write_given (refused n) → write_left a stats room ≡ write_block p stats block skip choice room
  unfolding write_block write_block_by
  write_no_lem n a q h e = ap (λ z. write_left z stats room) e ∙ go n h ∙ ap (λ k. write_block_by k p stats block skip choice room) q
    where
      go : (n : ℕ) → (n ≡ 0 → ⊥) → write_left (write_given (refused n)) stats room ≡ write_block_by n p stats block skip choice room
      go zero h = absurd (h refl)
      go (suc n) h = refl

  pub write_yes : (n : ℕ) (a : WriteAnswer) (r : Result ℕ ℕ) (q : Params) (s : Bool) (c : Rdpcm) (stats' room' : List ℕ)
      → n ≡ (params_flags p or_else flag_refusal skip or_else choice_refusal choice) → n ≡ 0 → q ≡ params_of p → s ≡ is_set skip → c ≡ choice_of choice
      → bins_written r stats' room' ≡ write_bins q stats block s c room → a ≡ write_given (written_says r)
      → write_left a stats' room' ≡ write_block p stats block skip choice room
  unfolding write_block write_block_by
  write_yes n a r q s c stats' room' e z eq es ec promise ea =
      let o : 0 ≡ (params_flags p or_else flag_refusal skip or_else choice_refusal choice) = sym z ∙ e in
      let same : write_bins q stats block s c room ≡ write_bins (params_of p) stats block (is_set skip) (choice_of choice) room =
      ap (λ (u : Params). write_bins u stats block s c room) eq ∙ ap (λ (u : Bool). write_bins (params_of p) stats block u c room) es
      ∙ ap (λ (u : Rdpcm). write_bins (params_of p) stats block (is_set skip) u room) ec in
      ap (λ u. write_left u stats' room') ea ∙ ap write_seen (promise ∙ same)
      ∙ ap (λ k. write_block_by k p stats block skip choice room) o

-- Demand 3 in its own words, of every answer that the writer's promise allows. Assumes nothing.
use Rattle.std.specs.Prelude.{ℕ, ◌≡◌, List, Bool, ℤ, Result, Ok, Err}
use Rattle.std.proofs.Common.{sym, ap, subst, arith}
use Rattle.cabac.specs.Numbers.{accepted}
use Rattle.hevc_residual.specs.declared.params.Params.{Params}
use Rattle.hevc_residual.specs.declared.params.Rdpcm.{Rdpcm}
use Rattle.hevc_residual.specs.Numbers.{parameter_refusal, statistics_refusal}
use Rattle.hevc_residual.specs.Entries.{BinsWritten, wanted_from, write_bins}
use Rattle.trees.specs.Outcome as every
use Rattle.hevc_exact.specs.Exact.{ReadsAs, block_exactly}
use Rattle.hevc_residual.specs.Answers.{written_says, bins_written}

-- ---- demand 3: r is the answer, room' the room behind it
abbrev pub Exactly : Params → List ℕ → List ℤ → Bool → Rdpcm → List ℕ → Result ℕ ℕ → List ℕ → Type 0
Exactly p stats block skip rdpcm room r room' =
    every.Exactly ((0 ≡ parameter_refusal p block) × (0 ≡ statistics_refusal stats)) (λ l. ReadsAs p stats l (wanted_from p block skip rdpcm)) room (written_says r) room'

-- ---- the answer, by what it says
pub told_list : (r : Result ℕ ℕ) (n : ℕ) → written_says r ≡ accepted n → r ≡ Ok n
told_list (Ok m) n q = let e : m ≡ n = cc in ap Ok e
told_list (Err m) n q = let z : ◌≡◌ {A = ℕ} 0 1 = cc in absurd (omega arith)

module _ (p : Params) (stats : List ℕ) (block : List ℤ) (skip : Bool) (rdpcm : Rdpcm) (room : List ℕ) (r : Result ℕ ℕ) (stats' room' : List ℕ)
    (promise : bins_written r stats' room' ≡ write_bins p stats block skip rdpcm room) where
  pub exactly : Exactly p stats block skip rdpcm room r room'
  exactly =
      subst
      (λ (b : BinsWritten).
      every.Exactly ((0 ≡ parameter_refusal p block) × (0 ≡ statistics_refusal stats)) (λ l. ReadsAs p stats l (wanted_from p block skip rdpcm)) room b.answer b.room)
      (sym promise) (block_exactly p stats block skip rdpcm room)

-- the promise and its words
pub promised : (p : Params) (stats : List ℕ) (block : List ℤ) (skip : Bool) (rdpcm : Rdpcm) (room : List ℕ) (r : Result ℕ ℕ) (stats' room' : List ℕ)
    → bins_written r stats' room' ≡ write_bins p stats block skip rdpcm room
    → (bins_written r stats' room' ≡ write_bins p stats block skip rdpcm room) × Exactly p stats block skip rdpcm room r room'
promised p stats block skip rdpcm room r stats' room' e = (e, exactly p stats block skip rdpcm room r stats' room' e)

-- Which numbers the readers' answers can have, whatever they are handed: readings of their promises. Assumes nothing.
use Rattle.std.specs.Prelude.{ℕ, ◌≡◌, true, List, [], ◌∷◌, ℤ, Err}
use Rattle.std.proofs.Common.{sym, ap}
use Rattle.bins.specs.declared.state.Engine.{Engine}
use Rattle.hevc_residual.specs.declared.params.Params.{Params}
use Rattle.hevc_residual.specs.Entries.{PayloadRead, BinsRead, read_payload, read_bins}
use Rattle.hevc_bounds.specs.Among.{among}
use Rattle.hevc_bounds.specs.EntryNumbers as blocks
use Rattle.hevc_residual.specs.Answers.{payload_read, bins_read}
use Rattle.hevc_cross.specs.Entries as scales
use Rattle.hevc_scale.specs.EntriesAgree as scaled
use Rattle.hevc_cross.specs.ScaleNumbers as numbers

pub residual_coding : (l : List ℕ) (e : Engine) (contexts stats : List ℕ) (p : Params) (block : List ℤ) (n : ℕ) (c t : List ℕ) (b : List ℤ)
    → payload_read (Err n) c t b ≡ read_payload l e contexts stats p block → among (1 ∷ 2 ∷ 4 ∷ 3 ∷ 6 ∷ 7 ∷ 8 ∷ []) n ≡ true
residual_coding l e contexts stats p block n c t b q = blocks.payload_numbers l e contexts stats p block n (sym (ap (λ (x : PayloadRead). x.answer) q))

pub read_bins_lem : (bins stats : List ℕ) (p : Params) (block : List ℤ) (n : ℕ) (t : List ℕ) (b : List ℤ)
    → bins_read (Err n) t b ≡ read_bins bins stats p block → among (4 ∷ 3 ∷ 8 ∷ 13 ∷ []) n ≡ true
read_bins_lem bins stats p block n t b q = blocks.bins_numbers bins stats p block n (sym (ap (λ (x : BinsRead). x.answer) q))

pub read_scale_lem : (l : List ℕ) (e : Engine) (contexts : List ℕ) (component n : ℕ) (c : List ℕ)
    → scaled.payload_read (Err n) c ≡ scales.read_payload l e contexts component → among (1 ∷ 2 ∷ 4 ∷ 3 ∷ 6 ∷ []) n ≡ true
read_scale_lem l e contexts component n c q = numbers.payload_numbers l e contexts component n (sym (ap (λ (x : scales.PayloadRead). x.answer) q))

pub read_scale_bins : (bins : List ℕ) (component n : ℕ) → scaled.bins_read (Err n) ≡ scales.read_bins bins component → among (4 ∷ 13 ∷ []) n ≡ true
read_scale_bins bins component n q = numbers.bins_numbers bins component n (sym q)

-- Document 01: "Any two answers allowed by it are shown equal." One theorem for each entry point: whatever it is handed, two answers that its promise allows are
-- equal, with what they leave in lent memory. The methods of Decoder promise the same of payload and state held. Assumes nothing.
use Rattle.std.specs.Prelude.{ℕ, ◌≡◌, Bool, List, ℤ, Result}
use Rattle.std.proofs.Common.{sym, ap, ◌∙◌}
use Rattle.bins.specs.declared.state.Engine.{Engine}
use Rattle.cabac.specs.Entries as engine
use Rattle.cabac.specs.Entries.{state_says, decision_says, bins_say, values_refusal, contexts_after, statistics_after}
use Rattle.cabac.specs.declared.answers.DecidedBin.{DecidedBin}
use Rattle.cabac.specs.declared.answers.ReadBins.{ReadBins}
use Rattle.hevc_residual.specs.declared.params.Params.{Params}
use Rattle.hevc_residual.specs.declared.params.Rdpcm.{Rdpcm}
use Rattle.hevc_residual.specs.Entries.{read_payload, read_bins, write_bins}
use Rattle.hevc_residual.specs.declared.answers.ReadBlock.{ReadBlock}
use Rattle.hevc_residual.specs.declared.answers.Found as code
use Rattle.hevc_residual.specs.Answers.{payload_read, bins_read}
use Rattle.hevc_residual.specs.Answers.{bins_written}
use Rattle.hevc_plain.specs.Plain.{read_plain, read_plain_bins, write_plain, plain_record}
use Rattle.hevc_plain_checks.specs.Record.{made_says}
use Rattle.hevc_cross.specs.Entries as scales
use Rattle.hevc_scale.specs.EntriesAgree as scaled
use Rattle.cabac_context.specs.Lent.{lent_says, on_lent}
use Rattle.cabac_context.specs.declared.context.ReadBit.{ReadBit}
use Rattle.answers.specs.One.{state_one, bins_one, decision_one, lent_one, read_one, list_one, written_one, made_one, scale_one, scale_list_one, scale_written_one}

-- ---- the engine: nothing is lent that it changes
module _ (l : List ℕ) (r s : Result Engine ℕ) where
  pub start : state_says r ≡ engine.start l → state_says s ≡ engine.start l → r ≡ s
  start a b = state_one r s (a ∙ sym b)

  pub byte_align_lem : (e : Engine) → state_says r ≡ engine.byte_align l e → state_says s ≡ engine.byte_align l e → r ≡ s
  byte_align_lem e a b = state_one r s (a ∙ sym b)

  pub restart : (e : Engine) → state_says r ≡ engine.restart l e → state_says s ≡ engine.restart l e → r ≡ s
  restart e a b = state_one r s (a ∙ sym b)

pub decode_bin : (l : List ℕ) (e : Engine) (ctx : ℕ) (r s : Result DecidedBin ℕ) → decision_says r ≡ engine.decision l e ctx → decision_says s ≡ engine.decision l e ctx → r ≡ s
decode_bin l e ctx r s a b = decision_one r s (a ∙ sym b)

module _ (l : List ℕ) (e : Engine) (r s : Result ReadBins ℕ) where
  -- decode_bypass, where count is 1, and decode_bypass_bits
  pub decode_bypass : (count : ℕ) → bins_say r ≡ engine.bypass_bits l e count → bins_say s ≡ engine.bypass_bits l e count → r ≡ s
  decode_bypass count a b = bins_one r s (a ∙ sym b)

  pub decode_terminate : bins_say r ≡ engine.terminate l e → bins_say s ≡ engine.terminate l e → r ≡ s
  decode_terminate a b = bins_one r s (a ∙ sym b)

  pub read_bits : (count : ℕ) → bins_say r ≡ engine.raw l e count → bins_say s ≡ engine.raw l e count → r ≡ s
  read_bits count a b = bins_one r s (a ∙ sym b)

-- the rest of the payload: its bytes
pub rest : (l : List ℕ) (e : Engine) (r s : List ℕ) → r ≡ engine.rest_of l e → s ≡ engine.rest_of l e → r ≡ s
rest l e r s a b = a ∙ sym b

-- ---- initialisation: the number, contexts and statistics
pub init_contexts : (contexts stats values : List ℕ) (q n n' : ℕ) (c c' t t' : List ℕ)
    → (n ≡ values_refusal values) × (c ≡ contexts_after n contexts values q) × (t ≡ statistics_after n stats)
    → (n' ≡ values_refusal values) × (c' ≡ contexts_after n' contexts values q) × (t' ≡ statistics_after n' stats)
    → (n ≡ n') × (c ≡ c') × (t ≡ t')
init_contexts contexts stats values q n n' c c' t t' a b =
    let e : n ≡ n' = a.0 ∙ sym b.0 in
    (e, a.1 ∙ ap (λ k. contexts_after k contexts values q) e ∙ sym b.1, a.2 ∙ ap (λ k. statistics_after k stats) e ∙ sym b.2)

-- ---- a lent context: the bin, and the byte that it then holds
pub decode_bin_lent : (l : List ℕ) (e : Engine) (packed : ℕ) (r s : Result ReadBit ℕ) (x y : ℕ) → lent_says r x ≡ on_lent l e packed → lent_says s y ≡ on_lent l e packed → (r ≡ s) × (x ≡ y)
decode_bin_lent l e packed r s x y a b = lent_one r s x y (a ∙ sym b)

-- ---- blocks: contexts, statistics, levels, room
pub residual_coding : (l : List ℕ) (e : Engine) (contexts stats : List ℕ) (p : Params) (block : List ℤ) (r s : Result ReadBlock ℕ) (c c' t t' : List ℕ) (b b' : List ℤ)
    → payload_read r c t b ≡ read_payload l e contexts stats p block → payload_read s c' t' b' ≡ read_payload l e contexts stats p block
    → (r ≡ s) × (c ≡ c') × (t ≡ t') × (b ≡ b')
residual_coding l e contexts stats p block r s c c' t t' b b' x y = read_one r s c c' t t' b b' (x ∙ sym y)

pub read_bins_lem : (bins stats : List ℕ) (p : Params) (block : List ℤ) (r s : Result code.Found ℕ) (t t' : List ℕ) (b b' : List ℤ)
    → bins_read r t b ≡ read_bins bins stats p block → bins_read s t' b' ≡ read_bins bins stats p block → (r ≡ s) × (t ≡ t') × (b ≡ b')
read_bins_lem bins stats p block r s t t' b b' x y = list_one r s t t' b b' (x ∙ sym y)

pub write_bins_lem : (p : Params) (stats : List ℕ) (block : List ℤ) (skip : Bool) (rdpcm : Rdpcm) (room : List ℕ) (r s : Result ℕ ℕ) (t t' m m' : List ℕ)
    → bins_written r t m ≡ write_bins p stats block skip rdpcm room → bins_written s t' m' ≡ write_bins p stats block skip rdpcm room → (r ≡ s) × (t ≡ t') × (m ≡ m')
write_bins_lem p stats block skip rdpcm room r s t t' m m' x y = written_one r s t t' m m' (x ∙ sym y)

-- ---- plain blocks, and a plain record
pub residual_coding_plain : (l : List ℕ) (e : Engine) (contexts stats : List ℕ) (p : Params) (block : List ℤ) (r s : Result ReadBlock ℕ) (c c' t t' : List ℕ) (b b' : List ℤ)
    → payload_read r c t b ≡ read_plain l e contexts stats p block → payload_read s c' t' b' ≡ read_plain l e contexts stats p block
    → (r ≡ s) × (c ≡ c') × (t ≡ t') × (b ≡ b')
residual_coding_plain l e contexts stats p block r s c c' t t' b b' x y = read_one r s c c' t t' b b' (x ∙ sym y)

pub read_bins_plain : (bins stats : List ℕ) (p : Params) (block : List ℤ) (r s : Result code.Found ℕ) (t t' : List ℕ) (b b' : List ℤ)
    → bins_read r t b ≡ read_plain_bins bins stats p block → bins_read s t' b' ≡ read_plain_bins bins stats p block → (r ≡ s) × (t ≡ t') × (b ≡ b')
read_bins_plain bins stats p block r s t t' b b' x y = list_one r s t t' b b' (x ∙ sym y)

pub write_bins_plain : (p : Params) (stats : List ℕ) (block : List ℤ) (skip : Bool) (rdpcm : Rdpcm) (room : List ℕ) (r s : Result ℕ ℕ) (t t' m m' : List ℕ)
    → bins_written r t m ≡ write_plain p stats block skip rdpcm room → bins_written s t' m' ≡ write_plain p stats block skip rdpcm room → (r ≡ s) × (t ≡ t') × (m ≡ m')
write_bins_plain p stats block skip rdpcm room r s t t' m m' x y = written_one r s t t' m m' (x ∙ sym y)

pub plain_params_lem : (log2 : ℕ) (luma : Bool) (scan : ℕ) (hiding skipAllowed lossless inter : Bool) (r s : Result Params ℕ)
    → made_says r ≡ plain_record log2 luma scan hiding skipAllowed lossless inter → made_says s ≡ plain_record log2 luma scan hiding skipAllowed lossless inter → r ≡ s
plain_params_lem log2 luma scan hiding skipAllowed lossless inter r s x y = made_one r s (x ∙ sym y)

-- ---- scales
pub read_scale_lem : (l : List ℕ) (e : Engine) (contexts : List ℕ) (component : ℕ) (r s : scaled.Read) (c c' : List ℕ)
    → scaled.payload_read r c ≡ scales.read_payload l e contexts component → scaled.payload_read s c' ≡ scales.read_payload l e contexts component → (r ≡ s) × (c ≡ c')
read_scale_lem l e contexts component r s c c' x y = scale_one r s c c' (x ∙ sym y)

pub read_scale_bins : (bins : List ℕ) (component : ℕ) (r s : scaled.ReadList)
    → scaled.bins_read r ≡ scales.read_bins bins component → scaled.bins_read s ≡ scales.read_bins bins component → r ≡ s
read_scale_bins bins component r s x y = scale_list_one r s (x ∙ sym y)

pub write_scale_bins : (component : ℕ) (z : ℤ) (room : List ℕ) (r s : Result ℕ ℕ) (m m' : List ℕ)
    → scaled.bins_written r m ≡ scales.write_bins component z room → scaled.bins_written s m' ≡ scales.write_bins component z room → (r ≡ s) × (m ≡ m')
write_scale_bins component z room r s m m' x y = scale_written_one r s m m' (x ∙ sym y)

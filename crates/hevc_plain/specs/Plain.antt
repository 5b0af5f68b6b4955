-- Plain cameras (request (xi)): what uses none of the range extensions, and the readers and the writer for just that. 24 stands behind 4 and before 3.
use Rattle.std.specs.Prelude.{ℕ, List, [], ◌∷◌, Bool, true, false, not, ◌&&◌, ◌||◌, cond, leb, eqb, replicate, ℤ}
use Rattle.bins.specs.declared.state.Engine.{Engine}
use Rattle.cabac.specs.Numbers.{Answer, ◌or_else◌, unless, payload_refusal, state_refusal, ended_refusal}
use Rattle.hevc_residual.specs.declared.params.Params.{Params}
use Rattle.hevc_residual.specs.declared.params.Rdpcm.{Rdpcm}
use Rattle.hevc_residual.specs.Refusal.{write_refusal}
use Rattle.hevc_residual.specs.Numbers.{parameter_refusal, contexts_refusal, statistics_refusal}
use Rattle.hevc_residual.specs.Entries.{PayloadRead, read_payload_by, BinsRead, read_bins_by, BinsWritten, wanted_from, write_bins_by}

-- ---- what is plain
-- 8 bits; scans 1 and 2 at 4x4 and 8x8 alone; no option of the range extensions
unfoldable pub plain_params : Params → Bool
plain_params p =
    eqb p.depth 8
    && ((eqb p.scan 0 || leb p.log2 3)
    && not (p.persistent || (p.skip_context || (p.explicit_rdpcm || (p.implicit_rdpcm || (p.aligning || p.extended))))))

-- the statistics are 0
unfoldable pub zeros : List ℕ → Bool
zeros [] = true
zeros (s ∷ l) = eqb s 0 && zeros l

-- 24: anything else
unfoldable pub plain_refusal : Params → List ℕ → ℕ
plain_refusal p stats = cond (plain_params p && zeros stats) 0 24

-- ---- the payload reader: 1, 2, 4, 24, 3, 6, then 8
unfoldable pub read_plain : List ℕ → Engine → List ℕ → List ℕ → Params → List ℤ → PayloadRead
read_plain l e contexts stats p block =
    read_payload_by
    (payload_refusal l
    or_else parameter_refusal p block
    or_else plain_refusal p stats
    or_else state_refusal l e
    or_else contexts_refusal contexts
    or_else statistics_refusal stats
    or_else ended_refusal e)
    l e contexts stats p block

-- ---- the bin reader: 4, 24, then 8 or 13
unfoldable pub read_plain_bins : List ℕ → List ℕ → Params → List ℤ → BinsRead
read_plain_bins bins stats p block =
    read_bins_by (parameter_refusal p block or_else plain_refusal p stats or_else statistics_refusal stats) bins stats p block

-- ---- the bin writer: 4, 24, 9, 10, 8, 11, 12
unfoldable pub write_plain : Params → List ℕ → List ℤ → Bool → Rdpcm → List ℕ → BinsWritten
write_plain p stats block skip rdpcm room =
    let w = wanted_from p block skip rdpcm in
    write_bins_by (parameter_refusal p block or_else plain_refusal p stats or_else statistics_refusal stats or_else write_refusal p w) p stats w room

-- ---- a plain record from what is left to say; its other fields are 8 bits, and off
abbrev pub plain_of : ℕ → Bool → ℕ → Bool → Bool → Bool → Bool → Params
plain_of log2 luma scan hiding skipAllowed lossless inter =
    record {
      log2 = log2;
      luma = luma;
      scan = scan;
      depth = 8;
      hiding = hiding;
      skip_allowed = skipAllowed;
      lossless = lossless;
      persistent = false;
      skip_context = false;
      explicit_rdpcm = false;
      implicit_rdpcm = false;
      inter = inter;
      aligning = false;
      extended = false;
    }

-- 4, of what parameter_refusal looks at beside the bit depth and the block
unfoldable pub limits_refusal : ℕ → ℕ → ℕ
limits_refusal log2 scan = cond (leb 2 log2 && (leb log2 5 && leb scan 2)) 0 4

-- 4, 24: whatever is made passes both, with statistics of 0 and a block of n·n places
unfoldable pub plain_record : ℕ → Bool → ℕ → Bool → Bool → Bool → Bool → Answer Params
plain_record log2 luma scan hiding skipAllowed lossless inter =
    let p = plain_of log2 luma scan hiding skipAllowed lossless inter in
    unless (limits_refusal log2 scan or_else plain_refusal p (replicate 4 0)) p

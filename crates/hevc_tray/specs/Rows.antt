-- A record of parameters, and what is found of a block, as rows of numbers.
-- A record has log2 size, scan, bit depth, then eleven flags: a flag above 1 is 4.
use Rattle.std.specs.Prelude.{ℕ, zero, suc, List, [], ◌∷◌, get_or, take, drop, ltb}
use Rattle.bins.specs.Engine.{bit_no}
use Rattle.cabac.specs.Numbers.{◌or_else◌}
use Rattle.hevc_residual.specs.declared.params.Params.{Params}
use Rattle.hevc_residual.specs.declared.params.Rdpcm.{Rdpcm}
use Rattle.hevc_residual.specs.declared.params.Rdpcm.TheVariants as rdpcm
use Rattle.hevc_residual.specs.Entries.{Found}
use Rattle.hevc_checks.specs.ChecksAgree.{above_refusal}

abbrev pub params_of : List ℕ → Params
params_of row =
    record {
      log2 = get_or row 0 0;
      luma = ltb 0 (get_or row 3 0);
      scan = get_or row 1 0;
      depth = get_or row 2 0;
      hiding = ltb 0 (get_or row 4 0);
      skip_allowed = ltb 0 (get_or row 5 0);
      lossless = ltb 0 (get_or row 6 0);
      persistent = ltb 0 (get_or row 7 0);
      skip_context = ltb 0 (get_or row 8 0);
      explicit_rdpcm = ltb 0 (get_or row 9 0);
      implicit_rdpcm = ltb 0 (get_or row 10 0);
      inter = ltb 0 (get_or row 11 0);
      aligning = ltb 0 (get_or row 12 0);
      extended = ltb 0 (get_or row 13 0);
    }

unfoldable pub records_of : List (List ℕ) → List Params
records_of [] = []
records_of (r ∷ rows) = params_of r ∷ records_of rows

-- 4: a flag above 1, in one record, in any
unfoldable pub four : ℕ → ℕ
four zero = 0
four (suc n) = 4

unfoldable pub flags_refusal : List ℕ → ℕ
flags_refusal row = four (above_refusal 1 (take 11 (drop 3 row)))

unfoldable pub rows_refusal : List (List ℕ) → ℕ
rows_refusal [] = 0
rows_refusal (r ∷ rows) = flags_refusal r or_else rows_refusal rows

-- ---- skip, RDPCM (0 none, 1 and 2 the directions 0 and 1), column extent, row extent, greatest magnitude
abbrev pub rdpcm_no : Rdpcm → ℕ
rdpcm_no rdpcm.None = 0
rdpcm_no rdpcm.Horizontal = 1
rdpcm_no rdpcm.Vertical = 2

abbrev pub found_row : Found → List ℕ
found_row f = bit_no f.skip ∷ rdpcm_no f.rdpcm ∷ f.column ∷ f.row ∷ f.greatest ∷ []

unfoldable pub found_rows : List Found → List (List ℕ)
found_rows [] = []
found_rows (f ∷ fs) = found_row f ∷ found_rows fs

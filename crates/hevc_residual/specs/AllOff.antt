-- Parameters with every option off but sign hiding, which is said.
use Rattle.std.specs.Prelude.{ℕ, Bool, false}
use Rattle.hevc_residual.specs.declared.params.Params.{Params}

abbrev pub all_off : ℕ → Bool → ℕ → ℕ → Bool → Params
all_off log2 luma scan depth hiding =
    record {
      log2 = log2;
      luma = luma;
      scan = scan;
      depth = depth;
      hiding = hiding;
      skip_allowed = false;
      lossless = false;
      persistent = false;
      skip_context = false;
      explicit_rdpcm = false;
      implicit_rdpcm = false;
      inter = false;
      aligning = false;
      extended = false;
    }

-- A frame's bytes and its fields (document 02, (viii)): 8 bytes, 130 initial values, the payload.
use Rattle.std.specs.Prelude.{ℕ, Bool, false, cond, ◌&&◌, List, leb, eqb, take, drop, get_or}
use Rattle.bins.specs.Tags.{context_count}
use Rattle.hevc_residual.specs.declared.params.Params.{Params}
use Rattle.hevc_residual.specs.AllOff.{all_off}

abbrev pub front_bytes : ℕ
front_bytes = 138

abbrev pub byte_of : List ℕ → ℕ → ℕ
byte_of bytes i = get_or bytes i 0

abbrev pub values_of : List ℕ → List ℕ
values_of bytes = take context_count (drop 8 bytes)

abbrev pub payload_of : List ℕ → List ℕ
payload_of bytes = drop front_bytes bytes

-- log2 size, luma (1) or chroma (0), scan, bit depth, behind the QP hiding (0 or 1); other options are off
unfoldable pub params_of : List ℕ → Params
params_of bytes =
    all_off (byte_of bytes 0) (eqb (byte_of bytes 1) 1) (byte_of bytes 2) (byte_of bytes 3) (eqb (byte_of bytes 5) 1)

abbrev pub quantiser_of : List ℕ → ℕ
quantiser_of bytes = byte_of bytes 4

-- 4: a luma or hiding byte above 1
unfoldable pub flags_refusal : List ℕ → ℕ
flags_refusal bytes = cond (leb (byte_of bytes 1) 1 && leb (byte_of bytes 5) 1) 0 4

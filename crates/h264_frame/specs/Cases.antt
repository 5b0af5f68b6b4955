-- Worked frames: one table, and one statement about the definitions.
use Rattle.std.specs.Prelude.{ℕ, zero, suc, ◌≡◌, refl, Bool, true, false, ◌&&◌, List, [], ◌∷◌, ◌++◌, eqb, set, ℤ, pos, negsuc, Some, None, Ok, Err}
use Rattle.std.specs.Int.Count.{count_leading_zeros}
use Rattle.tables.specs.Tables.{range_tab_lps, trans_idx_mps, trans_idx_lps, lps_of, on_mps, on_lps}
use Rattle.bins.specs.Bits.{bits}
use Rattle.bins.specs.Engine.{fetched, started, split_by, split, decided, bypassed}
use Rattle.bins.specs.Syn.{◌>>=◌, run, by_engine}
use Rattle.bins.specs.Readers.{bits_s, ones_s}
use Rattle.cabac.specs.Numbers.{◌or_else◌, unless, payload_refusal, possible, state_refusal, context_refusal, offset_refusal, ended_refusal}
use Rattle.cabac.specs.Entries.{start}
use Rattle.trees.specs.Levels.{down_from, greatest_of}
use Rattle.trees.specs.Lent.{contexts_refusal}
use Rattle.trees.specs.Shapes.{count_s, golomb_s}
use Rattle.h264_block.specs.Layout.{at_magnitude}
use Rattle.h264_block.specs.Block.{block, places_s, magnitude_s, levels_s}
use Rattle.h264_block.specs.Contexts.{raised, pre_raised, initial, initial_all}
use Rattle.h264_block.specs.Entries.{block_refusal, read_by_engine, read_payload_by, read_payload}
use Rattle.h264_block.specs.Cases.{sameℤ, same_list}
use Rattle.h264_frame.specs.Frame.{formed, byte_signed, pairs_of, no_levels, Shown, read_of, started_read, started_levels, shown, levels_of}

-- a pair so many times, as bytes
pairs : ℕ → ℕ → ℕ → List ℕ
pairs m n zero = []
pairs m n (suc k) = m ∷ n ∷ pairs m n k

-- QP 26, a length, 40 pairs 0, 64, of which each makes a context of 64, and a payload
frame : ℕ → List ℕ → List ℕ
unfolding pairs
frame n payload = (26 ∷ 0 ∷ n ∷ pairs 0 64 40) ++ payload

pub record Case : Type 0 where
  pub bytes : List ℕ
  pub says : List ℕ  -- 0, the greatest magnitude, bits drawn and bits past the end; or the number; or nothing
  pub levels : List ℤ

unfoldable pub told : Shown → List ℕ
told (Some (Ok f)) = 0 ∷ f.greatest ∷ f.next.position.0 ∷ f.next.past ∷ []
told (Some (Err n)) = n ∷ []
told None = []

same : List ℕ → List ℕ → Bool
same [] [] = true
same (a ∷ x) [] = false
same [] (b ∷ y) = false
same (a ∷ x) (b ∷ y) = eqb a b && same x y

pub table : List Case
unfolding frame
table =
    record { bytes = frame 2 (0x36 ∷ 0xf0 ∷ []); says = 0 ∷ 1 ∷ 12 ∷ 0 ∷ []; levels = set no_levels 0 (pos 1) }
    ∷ record { bytes = frame 4 (0xfe ∷ 0xff ∷ 0xff ∷ 0xc0 ∷ []); says = 0 ∷ 1 ∷ 26 ∷ 0 ∷ []; levels = set no_levels 15 (negsuc 0) }
    ∷ record { bytes = frame 5 (0x00 ∷ 0x18 ∷ 0xff ∷ 0xff ∷ 0xf0 ∷ []); says = 8 ∷ []; levels = no_levels }
    ∷ record { bytes = frame 2 (0xff ∷ 0xff ∷ []); says = 5 ∷ []; levels = no_levels }
    ∷ record { bytes = frame 1 (0x00 ∷ []); says = 1 ∷ []; levels = no_levels }
    ∷ record { bytes = frame 2 (0x36 ∷ []); says = []; levels = no_levels }  -- the length disagrees
    ∷ record { bytes = []; says = []; levels = no_levels }
    ∷ []

pub all_pass : List Case → Bool
unfolding same
all_pass [] = true
all_pass (c ∷ cs) = same (told (shown c.bytes)) c.says && same_list (levels_of c.bytes) c.levels && all_pass cs

-- the statement
pub cases_pass : all_pass table ≡ true
unfolding all_pass table told sameℤ same_list bits range_tab_lps trans_idx_mps trans_idx_lps lps_of on_mps on_lps fetched started split_by split decided bypassed raised pre_raised initial initial_all count_leading_zeros ◌>>=◌ run by_engine bits_s ones_s ◌or_else◌ unless payload_refusal possible state_refusal context_refusal offset_refusal ended_refusal start block places_s magnitude_s levels_s at_magnitude count_s golomb_s down_from greatest_of block_refusal contexts_refusal read_by_engine read_payload_by read_payload formed byte_signed pairs_of read_of started_read started_levels shown levels_of
cases_pass = refl

-- a byte as two's complement has it
pub bytes_signed : same_list (byte_signed 0 ∷ byte_signed 127 ∷ byte_signed 128 ∷ byte_signed 255 ∷ []) (pos 0 ∷ pos 127 ∷ negsuc 127 ∷ negsuc 0 ∷ []) ≡ true
unfolding same_list sameℤ byte_signed
bytes_signed = refl

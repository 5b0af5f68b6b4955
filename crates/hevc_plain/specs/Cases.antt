-- Worked cases of the plain definitions, and of the bound on the Rice number: it is reached, and persistent Rice breaks it.
use Rattle.std.specs.Prelude.{ℕ, ◌-◌, ◌≡◌, refl, List, [], ◌∷◌, ◌++◌, Bool, true, false, ◌&&◌, eqb, ℤ, pos, length, replicate}
use Rattle.std.specs.Int.Count.{count_leading_zeros}
use Rattle.tables.specs.Tables.{range_tab_lps, trans_idx_mps, trans_idx_lps, lps_of, on_mps, on_lps}
use Rattle.bins.specs.declared.state.Engine.{Engine}
use Rattle.bins.specs.Bits.{bits}
use Rattle.bins.specs.Engine.{fetched, split_by, split, decided, bypassed}
use Rattle.bins.specs.Tags.{context_count, is_entry}
use Rattle.bins.specs.Syn.{◌>>=◌, Written, run, by_engine, by_list, write}
use Rattle.bins.specs.Readers.{bits_s, ones_s, prefix_s}
use Rattle.cabac.specs.Numbers.{Answer, accepted, refused, ◌or_else◌, unless, payload_refusal, possible, state_refusal, context_refusal, ended_refusal}
use Rattle.hevc_residual.specs.declared.params.Params.{Params}
use Rattle.hevc_residual.specs.declared.params.Rdpcm.TheVariants as of_rdpcm
use Rattle.hevc_residual.specs.Scan.{scan_order, number_in, sig_ctx}
use Rattle.hevc_residual.specs.Wanted.{Wanted, spot_in, wanted_in, down_from, none, last_of}
use Rattle.hevc_residual.specs.Head.{least_of, last_prefix, groups_s, head_s}
use Rattle.hevc_residual.specs.Remainder.{remainder_s, rice_next, stat_next}
use Rattle.hevc_residual.specs.SubBlock.{places_s, greater1_s, count_of, first_greater1, sign_hidden, signs_no, negative_now, dues}
use Rattle.hevc_residual.specs.Residual.{Block, is_coded, marked, sig_at, greatest_of, residual}
use Rattle.hevc_residual.specs.Extent.{column_extent_of, row_extent_of}
use Rattle.hevc_residual.specs.Refusal.{write_refusal}
use Rattle.hevc_residual.specs.Numbers.{within_limits, parameter_refusal, contexts_refusal, statistic_refusal, statistics_refusal, room_refusal}
use Rattle.hevc_residual.specs.Entries.{read_by_engine, read_payload_by, read_from_list, read_bins_by, write_list_by, write_list, write_bins_by}
use Rattle.hevc_plain.specs.Plain.{plain_params, zeros, plain_refusal, read_plain, read_plain_bins, write_plain, limits_refusal, plain_record}
use Rattle.hevc_plain.specs.Rice.{levels_under, residual_under}

-- ---- the parameters of a case: size, scan, bit depth and persistent Rice, all else off
pub asked : ℕ → ℕ → ℕ → Bool → Params
asked log2 scan depth persistent =
    record {
      log2 = log2;
      luma = true;
      scan = scan;
      depth = depth;
      hiding = false;
      skip_allowed = false;
      lossless = false;
      persistent = persistent;
      skip_context = false;
      explicit_rdpcm = false;
      implicit_rdpcm = false;
      inter = false;
      aligning = false;
      extended = false;
    }

at : ℕ → ℕ → ℕ → Engine
at range offset position = record { range = range; offset = offset; position = record { 0 = position }; ended = false; past = 0 }

pub data Case : Type 0 where
  payload_case : List ℕ → Engine → List ℕ → Params → ℕ → Case  -- payload, state, statistics, parameters, number given
  list_case : List ℕ → List ℕ → Params → ℕ → Case  -- list, statistics, parameters, number given
  write_case : List ℤ → List ℕ → Params → ℕ → Case  -- levels at the front of the block, statistics, parameters, number given
  record_case : ℕ → ℕ → ℕ → Case  -- size, scan, number given

pub table : List Case
unfolding asked at
table =
    payload_case (0x75 ∷ 0xff ∷ 0x80 ∷ []) (at 510 235 9) (replicate 4 0) (asked 2 0 8 false) 0
    ∷ payload_case (0x75 ∷ 0xff ∷ 0x80 ∷ []) (at 510 235 9) (replicate 4 0) (asked 2 0 9 false) 24
    ∷ payload_case (0x75 ∷ 0xff ∷ 0x80 ∷ []) (at 510 235 9) (0 ∷ 85 ∷ 0 ∷ 0 ∷ []) (asked 2 0 8 false) 24
    ∷ payload_case (0x75 ∷ 0xff ∷ 0x80 ∷ []) (at 1 1 1) (0 ∷ 1 ∷ 0 ∷ 0 ∷ []) (asked 2 0 8 false) 24
    ∷ payload_case (0x75 ∷ 0xff ∷ 0x80 ∷ []) (at 1 1 1) (replicate 4 0) (asked 2 0 8 false) 3
    ∷ payload_case (0x00 ∷ []) (at 1 1 1) (0 ∷ 1 ∷ 0 ∷ 0 ∷ []) (asked 2 0 8 false) 1
    ∷ list_case (1 ∷ 0 ∷ 2 ∷ 0 ∷ 36 ∷ 0 ∷ 77 ∷ 0 ∷ 72 ∷ 0 ∷ 170 ∷ 0 ∷ 172 ∷ 0 ∷ 4 ∷ 1 ∷ 5 ∷ 1 ∷ []) (replicate 4 0) (asked 2 0 8 false) 0
    ∷ list_case [] (0 ∷ 85 ∷ 0 ∷ 0 ∷ []) (asked 2 0 8 false) 24
    ∷ list_case [] (replicate 4 0) (asked 2 0 8 true) 24
    ∷ list_case [] (replicate 4 0) (asked 2 0 8 false) 13
    ∷ write_case (pos 1 ∷ []) (replicate 4 0) (asked 2 0 8 false) 0
    ∷ write_case (pos 1 ∷ []) (replicate 4 0) (asked 3 1 8 false) 0
    ∷ write_case (pos 1 ∷ []) (replicate 4 0) (asked 4 1 8 false) 24
    ∷ write_case (pos 1 ∷ []) (replicate 4 0) (asked 2 0 17 false) 4
    ∷ write_case [] (0 ∷ 0 ∷ 0 ∷ 1 ∷ []) (asked 2 0 8 false) 24
    ∷ write_case [] (replicate 4 0) (asked 2 0 8 false) 9
    ∷ record_case 5 0 0
    ∷ record_case 3 2 0
    ∷ record_case 4 2 24
    ∷ record_case 4 3 4
    ∷ record_case 6 0 4
    ∷ []

number_of : {A : Type 0} → Answer A → ℕ
number_of (accepted a) = 0
number_of (refused n) = n

contexts : List ℕ
contexts = replicate context_count 64

-- places enough for any block
block : List ℤ → List ℤ
block levels = levels ++ replicate (1024 - length levels) (pos 0)

passes : Case → Bool
unfolding number_of contexts block
passes (payload_case l e stats p n) = eqb (number_of (read_plain l e contexts stats p (block [])).answer) n
passes (list_case l stats p n) = eqb (number_of (read_plain_bins l stats p (block [])).answer) n
passes (write_case levels stats p n) = eqb (number_of (write_plain p stats (block levels) false of_rdpcm.None (replicate 12 255)).answer) n
passes (record_case log2 scan n) = eqb (number_of (plain_record log2 true scan false false false false)) n

pub all_pass : List Case → Bool
unfolding passes
all_pass [] = true
all_pass (c ∷ cs) = passes c && all_pass cs

pub plain_cases : all_pass table ≡ true
unfolding all_pass table is_entry bits range_tab_lps trans_idx_mps trans_idx_lps lps_of on_mps on_lps fetched split_by split decided bypassed count_leading_zeros ◌>>=◌ run by_engine by_list write bits_s ones_s prefix_s ◌or_else◌ unless payload_refusal possible state_refusal context_refusal ended_refusal scan_order number_in sig_ctx spot_in wanted_in down_from least_of last_prefix groups_s head_s remainder_s residual write_refusal within_limits parameter_refusal contexts_refusal statistic_refusal statistics_refusal room_refusal read_by_engine read_payload_by read_from_list read_bins_by write_list_by write_list write_bins_by plain_params zeros plain_refusal read_plain read_plain_bins write_plain limits_refusal plain_record
plain_cases = refl

-- ---- the Rice number: five levels of magnitude 30 in one sub-block
pub thirties : Wanted
thirties = record { skip = false; rdpcm = of_rdpcm.None; levels = replicate 5 (pos 30) ++ replicate 11 (pos 0) }

-- 0 of what is written
pub stop_of : Written Block → ℕ
stop_of (Written.ok b l) = 0
stop_of (Written.no n) = n

-- the last of them is read with 4: 4 is reached, and no less would do
pub rice_reaches_4 : (stop_of (write (residual_under 3 (asked 2 0 8 false) (replicate 4 0)) thirties) ≡ 99) × (stop_of (write (residual_under 4 (asked 2 0 8 false) (replicate 4 0)) thirties) ≡ 0)
unfolding asked thirties stop_of ◌>>=◌ write bits_s ones_s prefix_s scan_order number_in sig_ctx spot_in wanted_in down_from none last_of least_of last_prefix groups_s head_s remainder_s rice_next stat_next places_s greater1_s count_of first_greater1 sign_hidden signs_no negative_now dues is_coded marked sig_at greatest_of column_extent_of row_extent_of levels_under
rice_reaches_4 = (refl, refl)

-- with persistent Rice and a statistic of 20 the first is read with 5
pub persistent_exceeds_4 : stop_of (write (residual_under 4 (asked 2 0 8 true) (replicate 4 20)) thirties) ≡ 99
unfolding asked thirties stop_of ◌>>=◌ write bits_s ones_s prefix_s scan_order number_in sig_ctx spot_in wanted_in down_from none last_of least_of last_prefix groups_s head_s remainder_s rice_next stat_next places_s greater1_s count_of first_greater1 sign_hidden signs_no negative_now dues is_coded marked sig_at greatest_of column_extent_of row_extent_of levels_under
persistent_exceeds_4 = refl

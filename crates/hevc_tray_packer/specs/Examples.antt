-- Worked cases of a tray packed, by computation. So the theorem speaks of something.
use Rattle.std.specs.Prelude.{ℕ, ◌≡◌, refl, List, [], ◌∷◌, ◌++◌, replicate}
use Rattle.std.specs.Int.Count.{count_leading_zeros}
use Rattle.tables.specs.Tables.{range_tab_lps, trans_idx_mps, trans_idx_lps, lps_of, on_mps, on_lps}
use Rattle.bins.specs.Tags.{context_count, is_entry}
use Rattle.bins.specs.Syn.{◌>>=◌, run, by_list}
use Rattle.bins.specs.Readers.{bits_s, ones_s, prefix_s}
use Rattle.cabac.specs.Numbers.{accepted, refused, ◌or_else◌, context_refusal}
use Rattle.hevc_residual.specs.Scan.{scan_order, number_in, sig_ctx}
use Rattle.hevc_residual.specs.Wanted.{spot_in, wanted_in, down_from}
use Rattle.hevc_residual.specs.Head.{least_of, last_prefix, groups_s, head_s}
use Rattle.hevc_residual.specs.Remainder.{remainder_s}
use Rattle.hevc_residual.specs.Residual.{residual}
use Rattle.hevc_residual.specs.Numbers.{within_limits, parameter_refusal, contexts_refusal, statistic_refusal, statistics_refusal}
use Rattle.hevc_checks.specs.ChecksAgree.{above_refusal}
use Rattle.hevc_tray.specs.Rows.{records_of, four, flags_refusal, rows_refusal}
use Rattle.packing.specs.Pack.{kind_of, entries_of, encoded, ctx_after, packed_bin, packed_entry, packed, octets, filled, flushed, payload_of}
use Rattle.packing.specs.Entries.{pack_into_by, pack_into, pack_list, pack_tree}
use Rattle.hevc_packer.specs.Tray.{blocks_s, count_refusal, records_refusal, pack_tray}
use Rattle.hevc_tray_packer.specs.Rows.{is_end, on_list, lists, packed_by, done_by, pack_rows}

contexts : List ℕ
contexts = replicate context_count 64

-- 4x4, scan 0, depth 8, luma, all options off
plain : List ℕ
plain = 2 ∷ 0 ∷ 8 ∷ 1 ∷ replicate 10 0

-- level 1 at (0,0); level -1
one : List ℕ
one = 0x00 ∷ 0 ∷ 0x24 ∷ 0 ∷ 0xaa ∷ 0 ∷ 0x04 ∷ 1 ∷ []

less : List ℕ
less = 0x00 ∷ 0 ∷ 0x24 ∷ 0 ∷ 0xaa ∷ 0 ∷ 0x05 ∷ 1 ∷ []

-- both in one payload of 17 bits, as hevc_packer/specs/Examples has it
two_lists : pack_rows contexts (replicate 4 0) (plain ∷ plain ∷ []) (one ++ less) (9 ∷ 9 ∷ 9 ∷ []) ≡ record { done = 2; packed = record { answer = accepted 3; room = 0xe2 ∷ 0xdf ∷ 0x80 ∷ [] } }
unfolding contexts plain one less pack_rows packed_by done_by lists on_list is_end records_of four flags_refusal rows_refusal above_refusal pack_tray blocks_s count_refusal records_refusal pack_tree pack_list pack_into pack_into_by entries_of kind_of packed packed_entry packed_bin encoded ctx_after payload_of filled octets flushed lps_of on_mps on_lps range_tab_lps trans_idx_mps trans_idx_lps count_leading_zeros is_entry ◌>>=◌ run by_list bits_s ones_s prefix_s ◌or_else◌ context_refusal within_limits parameter_refusal contexts_refusal statistic_refusal statistics_refusal scan_order number_in sig_ctx spot_in wanted_in down_from least_of last_prefix groups_s head_s remainder_s residual
two_lists = refl

-- one list where there are two records is 13 with 1 done; two where there is one record is 13 too; a flag of 2 is 4
one_list : pack_rows contexts (replicate 4 0) (plain ∷ plain ∷ []) one (9 ∷ 9 ∷ 9 ∷ []) ≡ record { done = 1; packed = record { answer = refused 13; room = 9 ∷ 9 ∷ 9 ∷ [] } }
unfolding contexts plain one pack_rows packed_by done_by lists on_list is_end records_of four flags_refusal rows_refusal above_refusal pack_tray blocks_s count_refusal records_refusal pack_tree pack_list pack_into pack_into_by entries_of kind_of packed packed_entry packed_bin encoded ctx_after payload_of filled octets flushed lps_of on_mps on_lps range_tab_lps trans_idx_mps trans_idx_lps count_leading_zeros is_entry ◌>>=◌ run by_list bits_s ones_s prefix_s ◌or_else◌ context_refusal within_limits parameter_refusal contexts_refusal statistic_refusal statistics_refusal scan_order number_in sig_ctx spot_in wanted_in down_from least_of last_prefix groups_s head_s remainder_s residual
one_list = refl

list_left_over : pack_rows contexts (replicate 4 0) (plain ∷ []) (one ++ less) [] ≡ record { done = 1; packed = record { answer = refused 13; room = [] } }
unfolding contexts plain one less pack_rows packed_by done_by lists on_list is_end records_of four flags_refusal rows_refusal above_refusal pack_tray blocks_s count_refusal records_refusal pack_tree pack_list pack_into pack_into_by entries_of kind_of packed packed_entry packed_bin encoded ctx_after payload_of filled octets flushed lps_of on_mps on_lps range_tab_lps trans_idx_mps trans_idx_lps count_leading_zeros is_entry ◌>>=◌ run by_list bits_s ones_s prefix_s ◌or_else◌ context_refusal within_limits parameter_refusal contexts_refusal statistic_refusal statistics_refusal scan_order number_in sig_ctx spot_in wanted_in down_from least_of last_prefix groups_s head_s remainder_s residual
list_left_over = refl

flag_of_two : pack_rows contexts (replicate 4 0) ((2 ∷ 0 ∷ 8 ∷ 2 ∷ replicate 10 0) ∷ []) one [] ≡ record { done = 0; packed = record { answer = refused 4; room = [] } }
unfolding pack_rows packed_by done_by records_of four flags_refusal rows_refusal above_refusal ◌or_else◌
flag_of_two = refl

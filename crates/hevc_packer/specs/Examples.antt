-- Worked cases of request (i), by computation: both forms of the definition, and the entry points' definitions. So the theorems speak of something.
use Rattle.std.specs.Prelude.{ℕ, ◌≡◌, refl, true, false, List, [], ◌∷◌, replicate, pos}
use Rattle.std.specs.Int.Count.{count_leading_zeros}
use Rattle.tables.specs.Tables.{range_tab_lps, trans_idx_mps, trans_idx_lps, lps_of, on_mps, on_lps}
use Rattle.bins.specs.Tags.{context_count, is_entry}
use Rattle.bins.specs.Syn.{◌>>=◌, run, by_list}
use Rattle.bins.specs.Readers.{bits_s, ones_s, prefix_s}
use Rattle.cabac.specs.Numbers.{accepted, refused, ◌or_else◌, context_refusal}
use Rattle.hevc_residual.specs.declared.params.Params.{Params}
use Rattle.hevc_residual.specs.Scan.{scan_order, number_in, sig_ctx}
use Rattle.hevc_residual.specs.Wanted.{spot_in, wanted_in, down_from}
use Rattle.hevc_residual.specs.Head.{least_of, last_prefix, groups_s, head_s}
use Rattle.hevc_residual.specs.Remainder.{remainder_s}
use Rattle.hevc_residual.specs.Residual.{residual}
use Rattle.hevc_residual.specs.Numbers.{within_limits, parameter_refusal, contexts_refusal, statistic_refusal, statistics_refusal}
use Rattle.hevc_residual.specs.AllOff.{all_off}
use Rattle.packing.specs.Pack.{kind_of, entries_of, encoded, ctx_after, packed_bin, packed_entry, packed, octets, filled, flushed, payload_of}
use Rattle.packing.specs.PutBits.{Bits, no_bits, wrote, steps_begun, stepping, repeated, put_bit, renorm_once, renorm_for, step_decision, bypass_by, step_bypass, step_flush, step_bin, step_entry, step_all}
use Rattle.packing.specs.Entries.{payload_from, pack_into_by, pack_into, pack_list, pack_tree}
use Rattle.hevc_packer.specs.Entries.{pack_bins}
use Rattle.hevc_packer.specs.Tray.{blocks_s, count_refusal, records_refusal, pack_tray}

contexts : List ℕ
contexts = replicate context_count 64

-- 4x4 luma, scan 0, depth 8, all options off
plain : Params
plain =
    all_off 2 true 0 8 false

-- level 1 at (0,0); level -1; level 4
one : List ℕ
one = 0x00 ∷ 0 ∷ 0x24 ∷ 0 ∷ 0xaa ∷ 0 ∷ 0x04 ∷ 1 ∷ []

four : List ℕ
four = 0x00 ∷ 0 ∷ 0x24 ∷ 0 ∷ 0xab ∷ 0 ∷ 0xd9 ∷ 0 ∷ 0x04 ∷ 1 ∷ 0x05 ∷ 1 ∷ 0x04 ∷ 1 ∷ []

-- 16 bits, and no stop bit behind them
payload_four : payload_from contexts four ≡ 0xc8 ∷ 0x9f ∷ []
unfolding contexts four entries_of kind_of packed packed_entry packed_bin encoded ctx_after payload_of filled octets flushed lps_of on_mps on_lps range_tab_lps trans_idx_mps trans_idx_lps count_leading_zeros
payload_four = refl

-- H.265's own steps
steps_four : step_flush wrote (step_all wrote (entries_of four) (stepping (steps_begun no_bits) contexts)).steps ≡ record { value = 0xc89f; count = 16 }
unfolding contexts four entries_of kind_of ctx_after lps_of on_mps on_lps range_tab_lps trans_idx_mps trans_idx_lps repeated put_bit renorm_once renorm_for step_decision bypass_by step_bypass step_flush step_bin step_entry step_all
steps_four = refl

-- accepted, the room beyond it as it was; a byte less is 12; a list that ends early is 13, in no room too
packs_one : pack_bins contexts (replicate 4 0) plain one (9 ∷ 9 ∷ 9 ∷ []) ≡ record { answer = accepted 2; room = 0xef ∷ 0xf8 ∷ 9 ∷ [] }
unfolding contexts plain one pack_bins pack_tree pack_list pack_into pack_into_by entries_of kind_of packed packed_entry packed_bin encoded ctx_after payload_of filled octets flushed lps_of on_mps on_lps range_tab_lps trans_idx_mps trans_idx_lps count_leading_zeros is_entry ◌>>=◌ run by_list bits_s ones_s prefix_s ◌or_else◌ context_refusal within_limits parameter_refusal contexts_refusal statistic_refusal statistics_refusal scan_order number_in sig_ctx spot_in wanted_in down_from least_of last_prefix groups_s head_s remainder_s residual
packs_one = refl

no_room : pack_bins contexts (replicate 4 0) plain one (9 ∷ []) ≡ record { answer = refused 12; room = 9 ∷ [] }
unfolding contexts plain one pack_bins pack_tree pack_list pack_into pack_into_by entries_of kind_of packed packed_entry packed_bin encoded ctx_after payload_of filled octets flushed lps_of on_mps on_lps range_tab_lps trans_idx_mps trans_idx_lps count_leading_zeros is_entry ◌>>=◌ run by_list bits_s ones_s prefix_s ◌or_else◌ context_refusal within_limits parameter_refusal contexts_refusal statistic_refusal statistics_refusal scan_order number_in sig_ctx spot_in wanted_in down_from least_of last_prefix groups_s head_s remainder_s residual
no_room = refl

no_list_lem : pack_bins contexts (replicate 4 0) plain (0x00 ∷ 0 ∷ 0x24 ∷ 0 ∷ 0xaa ∷ 0 ∷ []) [] ≡ record { answer = refused 13; room = [] }
unfolding contexts plain pack_bins pack_tree pack_list pack_into pack_into_by entries_of kind_of packed packed_entry packed_bin encoded ctx_after payload_of filled octets flushed lps_of on_mps on_lps range_tab_lps trans_idx_mps trans_idx_lps count_leading_zeros is_entry ◌>>=◌ run by_list bits_s ones_s prefix_s ◌or_else◌ context_refusal within_limits parameter_refusal contexts_refusal statistic_refusal statistics_refusal scan_order number_in sig_ctx spot_in wanted_in down_from least_of last_prefix groups_s head_s remainder_s residual
no_list_lem = refl

-- two blocks of a tray, level 1 and level -1, in one payload of 17 bits
packs_two : pack_tray contexts (replicate 4 0) (plain ∷ plain ∷ []) (0x00 ∷ 0 ∷ 0x24 ∷ 0 ∷ 0xaa ∷ 0 ∷ 0x04 ∷ 1 ∷ 0x00 ∷ 0 ∷ 0x24 ∷ 0 ∷ 0xaa ∷ 0 ∷ 0x05 ∷ 1 ∷ []) (9 ∷ 9 ∷ 9 ∷ [])
    ≡ record { answer = accepted 3; room = 0xe2 ∷ 0xdf ∷ 0x80 ∷ [] }
unfolding contexts plain pack_tray blocks_s count_refusal records_refusal pack_tree pack_list pack_into pack_into_by entries_of kind_of packed packed_entry packed_bin encoded ctx_after payload_of filled octets flushed lps_of on_mps on_lps range_tab_lps trans_idx_mps trans_idx_lps count_leading_zeros is_entry ◌>>=◌ run by_list bits_s ones_s prefix_s ◌or_else◌ context_refusal within_limits parameter_refusal contexts_refusal statistic_refusal statistics_refusal scan_order number_in sig_ctx spot_in wanted_in down_from least_of last_prefix groups_s head_s remainder_s residual
packs_two = refl

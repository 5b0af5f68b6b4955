-- The theorems of the press speak of something: a drawing that is pressed, by computation. Level 1 at (0,0) of a 4x4 luma block, each initial value 154, QP 26.
use Rattle.std.specs.Prelude.{ℕ, ◌≤◌, ◌≡◌, refl, Bool, false, cond, List, [], ◌∷◌, ◌++◌, ℤ, pos, length, take, drop, replicate}
use Rattle.std.proofs.Common.{arith, ◌∙◌, le-ltb}
use Rattle.std.proofs.Math.Path.{ap}
use Rattle.std.specs.Int.Count.{count_leading_zeros}
use Rattle.std.proofs.lemmas.List.{length-replicate}
use Rattle.tables.specs.Tables.{range_tab_lps, trans_idx_mps, trans_idx_lps, lps_of, on_mps, on_lps}
use Rattle.bins.specs.Tags.{context_count, is_entry}
use Rattle.bins.specs.Syn.{◌>>=◌, run, by_list, write}
use Rattle.bins.specs.Readers.{bits_s, ones_s, prefix_s}
use Rattle.cabac.specs.Numbers.{accepted, ◌or_else◌, context_refusal}
use Rattle.cabac.specs.Contexts.{slope_raised, pre_raised, initial, initial_all}
use Rattle.hevc_residual.specs.declared.params.Rdpcm.TheVariants as of_rdpcm
use Rattle.hevc_residual.specs.Scan.{scan_order, number_in, sig_ctx}
use Rattle.hevc_residual.specs.Wanted.{spot_in, wanted_in, down_from}
use Rattle.hevc_residual.specs.Head.{least_of, last_prefix, groups_s, head_s}
use Rattle.hevc_residual.specs.Remainder.{remainder_s}
use Rattle.hevc_residual.specs.Residual.{greatest_of, residual}
use Rattle.hevc_residual.specs.Wanted.{area}
use Rattle.hevc_residual.specs.Refusal.{write_refusal}
use Rattle.hevc_residual.specs.Numbers.{within_limits, parameter_refusal, contexts_refusal, statistic_refusal, statistics_refusal, room_refusal}
use Rattle.hevc_residual.specs.Entries.{BinsWritten, write_list_by, write_list, write_bins_by, write_bins}
use Rattle.packing.specs.Pack.{kind_of, entries_of, encoded, ctx_after, packed_bin, packed_entry, packed, octets, filled, flushed, payload_of}
use Rattle.packing.specs.Entries.{BinsPacked, pack_into_by, pack_into, pack_list, pack_tree}
use Rattle.hevc_packer.specs.Entries.{pack_bins}
use Rattle.frame.specs.Frame.{params_of, flags_refusal}
use Rattle.frame.specs.Verdict.{verdict, ok}
use Rattle.press_frame.specs.Pressed.{frame_of, handed_refusal, no_statistics, contexts_of, framed, listed, pressed_by, pressed}
use Rattle.press_frame.specs.Judged.{pressed_judged}

unfoldable pub head : List ℕ
head = 2 ∷ 1 ∷ 0 ∷ 8 ∷ 26 ∷ 0 ∷ []

unfoldable pub values : List ℕ
values = replicate context_count 154

unfoldable pub levels : List ℤ
levels = pos 1 ∷ replicate 15 (pos 0)

-- its bins and its payload
bins : List ℕ
bins = 0x00 ∷ 0 ∷ 0x24 ∷ 0 ∷ 0xaa ∷ 0 ∷ 0x04 ∷ 1 ∷ []

unfoldable pub payload : List ℕ
payload = 0xef ∷ 0xf8 ∷ []

module _ (room : List ℕ) (wide : 8 ≤ length room) where
  written : write_bins (params_of head) no_statistics levels false of_rdpcm.None room ≡ record { answer = accepted 8; stats = no_statistics; room = bins ++ drop 8 room }
  unfolding head levels bins params_of is_entry ◌>>=◌ write bits_s ones_s prefix_s ◌or_else◌ scan_order number_in sig_ctx spot_in wanted_in down_from least_of last_prefix groups_s head_s remainder_s residual write_refusal within_limits parameter_refusal statistic_refusal statistics_refusal room_refusal write_list_by write_list write_bins_by write_bins
  written = ap (λ (b : Bool). write_list_by (cond b 12 0) bins no_statistics no_statistics room) (le-ltb (length room) 8 wide)

module _ (room : List ℕ) (wide : 2 ≤ length room) where
  packs : pack_bins (contexts_of head values) no_statistics (params_of head) bins room ≡ record { answer = accepted 2; room = payload ++ drop 2 room }
  unfolding head values bins payload params_of pack_bins pack_tree pack_list pack_into pack_into_by entries_of kind_of packed packed_entry packed_bin encoded ctx_after payload_of filled octets flushed lps_of on_mps on_lps range_tab_lps trans_idx_mps trans_idx_lps count_leading_zeros is_entry ◌>>=◌ run by_list bits_s ones_s prefix_s ◌or_else◌ context_refusal within_limits parameter_refusal contexts_refusal statistic_refusal statistics_refusal scan_order number_in sig_ctx spot_in wanted_in down_from least_of last_prefix groups_s head_s remainder_s residual slope_raised pre_raised initial initial_all
  packs = ap (λ (b : Bool). pack_into_by b payload room) (le-ltb (length room) 2 wide)

pub pressed_one : pressed 4234 head values levels ≡ accepted (frame_of head values payload)
unfolding head values bins payload pressed pressed_by handed_refusal flags_refusal listed framed
pressed_one =
    ap (λ (b : BinsWritten). listed head values b.answer b.room) (written (replicate 71088 0) (omega (arith, length-replicate {A = ℕ} 71088 0)))
    ∙ ap (λ (b : BinsPacked). framed head values b.answer b.room) (packs (replicate 4096 0) (omega (arith, length-replicate {A = ℕ} 4096 0)))

greatest_one : greatest_of (take (area (params_of head)) levels) ≡ 1
unfolding head levels params_of greatest_of
greatest_one = refl

-- so the book's answer to it follows
pub judged_one : verdict (frame_of head values payload) ≡ ok 1 0
judged_one = pressed_judged 4234 head values levels (frame_of head values payload) pressed_one ∙ ap (λ (n : ℕ). ok n 0) greatest_one

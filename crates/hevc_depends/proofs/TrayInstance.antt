-- Request (xii) of a tray, computed: two 4x4 blocks from C9 62 0F C0, of which 26 bits are drawn, and from C9 62 0F C0 55; and one that 8 stops at its second
-- block, where 53 bits are drawn.
use Rattle.std.specs.Prelude.{ℕ, ◌≡◌, refl, List, [], ◌∷◌, true, false, replicate, ℤ, pos}
use Rattle.std.proofs.Common.{ap, arith}
use Rattle.std.specs.Int.Count.{count_leading_zeros}
use Rattle.tables.specs.Table.{eq_below}
use Rattle.tables.specs.Tables.{range_tab_lps, trans_idx_mps, trans_idx_lps, lps_of, on_mps, on_lps}
use Rattle.bins.specs.Bits.{bit_at, bits}
use Rattle.bins.specs.Engine.{place, fetched, started, split_by, split, decided, bypassed, range_aligned}
use Rattle.bins.specs.Syn.{◌>>=◌, run, by_engine}
use Rattle.bins.specs.Readers.{bits_s, ones_s, prefix_s}
use Rattle.bins.specs.EngineRuns.{state_of}
use Rattle.bins.specs.Tags.{context_count}
use Rattle.cabac.specs.Numbers.{◌or_else◌, payload_refusal, possible, state_refusal, context_refusal, ended_refusal}
use Rattle.hevc_residual.specs.declared.params.Params.{Params}
use Rattle.hevc_residual.specs.Scan.{scan_order, number_in, sig_ctx}
use Rattle.hevc_residual.specs.Wanted.{spot_in, wanted_in, down_from}
use Rattle.hevc_residual.specs.Head.{least_of, last_prefix, groups_s, head_s}
use Rattle.hevc_residual.specs.Remainder.{remainder_s}
use Rattle.hevc_residual.specs.Residual.{residual}
use Rattle.hevc_residual.specs.Numbers.{within_limits, parameter_refusal, contexts_refusal, statistic_refusal, statistics_refusal}
use Rattle.hevc_residual.specs.Entries.{read_by_engine, read_payload_by, read_payload}
use Rattle.hevc_residual.specs.AllOff.{all_off}
use Rattle.hevc_tray.specs.Tray.{on_block, tray, count_refusal, records_refusal, rooms_refusal, read_tray_by, read_tray}
use Rattle.hevc_tray.specs.Rows.{found_rows}
use Rattle.hevc_depends.specs.Reached.{reached_by, reached, drew_past}
use Rattle.hevc_depends.specs.TrayReached.{onward, tray_reached_from, tray_past_from, tray_number, tray_reached_by, tray_past_by, tray_reached, tray_drew_past}
use Rattle.hevc_depends.proofs.TrayDepends.{TrayShown, tray_depends}

pub block4 : Params
block4 =
    all_off 2 true 0 8 false

abbrev pub one : List ℕ
one = 0xc9 ∷ 0x62 ∷ 0x0f ∷ 0xc0 ∷ []

abbrev pub two : List ℕ
two = 0xc9 ∷ 0x62 ∷ 0x0f ∷ 0xc0 ∷ 0x55 ∷ []

abbrev pub cut : List ℕ
cut = 0xc8 ∷ 0xa8 ∷ 0xb7 ∷ 0xfd ∷ 0xd1 ∷ 0xdd ∷ 0x18 ∷ []

abbrev pub like_cut : List ℕ
like_cut = 0xc8 ∷ 0xa8 ∷ 0xb7 ∷ 0xfd ∷ 0xd1 ∷ 0xdd ∷ 0x1f ∷ 0xff ∷ []

abbrev pub contexts : List ℕ
contexts = replicate context_count 64

abbrev pub stats : List ℕ
stats = replicate 4 0

abbrev pub buffer : List ℤ
buffer = replicate 48 (pos 7)

abbrev pub rows : List (List ℕ)
rows = replicate 3 []

-- blocks done, number, position reached, bits past the end
pub record Facts : Type 0 where
  pub done : ℕ
  pub number : ℕ
  pub reaches : ℕ
  pub past : ℕ

abbrev pub facts : List ℕ → List Params → Facts
facts l ps =
    let r = read_tray 0 l (started l) contexts stats ps buffer rows in
    record {
      done = r.done;
      number = r.number;
      reaches = place (tray_reached 0 l (started l) contexts stats ps buffer 3);
      past = tray_drew_past 0 l (started l) contexts stats ps buffer 3;
    }

-- ---- all blocks are done
pub tray_pair : facts one (block4 ∷ block4 ∷ []) ≡ record { done = 2; number = 0; reaches = 26; past = 0 }
unfolding block4 started bits range_tab_lps trans_idx_mps trans_idx_lps lps_of on_mps on_lps fetched split_by split decided bypassed range_aligned count_leading_zeros ◌>>=◌ run by_engine bits_s ones_s prefix_s ◌or_else◌ payload_refusal possible state_refusal context_refusal ended_refusal scan_order number_in sig_ctx spot_in wanted_in down_from least_of last_prefix groups_s head_s remainder_s residual within_limits parameter_refusal contexts_refusal statistic_refusal statistics_refusal read_by_engine read_payload_by read_payload state_of reached_by reached drew_past on_block tray count_refusal records_refusal rooms_refusal read_tray_by read_tray found_rows onward tray_reached_from tray_past_from tray_number tray_reached_by tray_past_by tray_reached tray_drew_past
tray_pair = refl

pub tray_shown : TrayShown 0 (started one) contexts stats (block4 ∷ block4 ∷ []) buffer rows one two
unfolding payload_refusal started fetched
tray_shown =
    let q : place (tray_reached 0 one (started one) contexts stats (block4 ∷ block4 ∷ []) buffer 3) ≡ 26 = ap (λ (z : Facts). z.reaches) tray_pair in
    tray_depends 0 (started one) contexts stats (block4 ∷ block4 ∷ []) buffer rows one two (record {
      first = refl;
      second = refl;
      inside = omega arith;
      drew = ap (λ (z : Facts). z.past) tray_pair;
      has = omega (arith, q);
      same = λ i h k. eq_below (bit_at one) (bit_at two) 26 tt i (omega (arith, q, k));
    })

-- ---- stopped by 8 at the second of three
pub stopped_pair : facts cut (block4 ∷ block4 ∷ block4 ∷ []) ≡ record { done = 1; number = 8; reaches = 53; past = 0 }
unfolding block4 started bits range_tab_lps trans_idx_mps trans_idx_lps lps_of on_mps on_lps fetched split_by split decided bypassed range_aligned count_leading_zeros ◌>>=◌ run by_engine bits_s ones_s prefix_s ◌or_else◌ payload_refusal possible state_refusal context_refusal ended_refusal scan_order number_in sig_ctx spot_in wanted_in down_from least_of last_prefix groups_s head_s remainder_s residual within_limits parameter_refusal contexts_refusal statistic_refusal statistics_refusal read_by_engine read_payload_by read_payload state_of reached_by reached drew_past on_block tray count_refusal records_refusal rooms_refusal read_tray_by read_tray found_rows onward tray_reached_from tray_past_from tray_number tray_reached_by tray_past_by tray_reached tray_drew_past
stopped_pair = refl

pub stopped_shown : TrayShown 0 (started cut) contexts stats (block4 ∷ block4 ∷ block4 ∷ []) buffer rows cut like_cut
unfolding payload_refusal started fetched
stopped_shown =
    let q : place (tray_reached 0 cut (started cut) contexts stats (block4 ∷ block4 ∷ block4 ∷ []) buffer 3) ≡ 53 = ap (λ (z : Facts). z.reaches) stopped_pair in
    tray_depends 0 (started cut) contexts stats (block4 ∷ block4 ∷ block4 ∷ []) buffer rows cut like_cut (record {
      first = refl;
      second = refl;
      inside = omega arith;
      drew = ap (λ (z : Facts). z.past) stopped_pair;
      has = omega (arith, q);
      same = λ i h k. eq_below (bit_at cut) (bit_at like_cut) 53 tt i (omega (arith, q, k));
    })

-- Request (xii) at work, computed: pairs of payloads of which it speaks, by acceptance, by 8 and by 7; and a pair that shows why the first run must not
-- draw past its end. 4x4 luma, scan 0, depth 8, every context 64, statistics 0.
use Rattle.std.specs.Prelude.{ℕ, ◌<◌, ◌≡◌, refl, List, [], ◌∷◌, Bool, true, false, replicate, ℤ, pos}
use Rattle.std.specs.Int.Count.{count_leading_zeros}
use Rattle.tables.specs.Table.{eq_below}
use Rattle.tables.specs.Tables.{range_tab_lps, trans_idx_mps, trans_idx_lps, lps_of, on_mps, on_lps}
use Rattle.bins.specs.declared.state.Engine.{Engine}
use Rattle.bins.specs.Bits.{bit_at, bits}
use Rattle.bins.specs.Engine.{place, fetched, started, split_by, split, decided, bypassed, range_aligned}
use Rattle.bins.specs.Syn.{◌>>=◌, run, by_engine}
use Rattle.bins.specs.Readers.{bits_s, ones_s, prefix_s}
use Rattle.bins.specs.EngineRuns.{state_of}
use Rattle.bins.specs.Tags.{context_count}
use Rattle.cabac.specs.Numbers.{Answer, accepted, refused, ◌or_else◌, payload_refusal, possible, state_refusal, context_refusal, ended_refusal}
use Rattle.hevc_residual.specs.declared.params.Params.{Params}
use Rattle.hevc_residual.specs.Scan.{scan_order, number_in, sig_ctx}
use Rattle.hevc_residual.specs.Wanted.{spot_in, wanted_in, down_from}
use Rattle.hevc_residual.specs.Head.{least_of, last_prefix, groups_s, head_s}
use Rattle.hevc_residual.specs.Remainder.{remainder_s}
use Rattle.hevc_residual.specs.Residual.{residual}
use Rattle.hevc_residual.specs.Numbers.{within_limits, parameter_refusal, contexts_refusal, statistic_refusal, statistics_refusal}
use Rattle.hevc_residual.specs.Entries.{FoundAt, read_by_engine, read_payload_by, read_payload}
use Rattle.hevc_depends.specs.Reached.{reached_by, reached, drew_past}

unfoldable pub params : Bool → Params
params aligning =
    record {
      log2 = 2;
      luma = true;
      scan = 0;
      depth = 8;
      hiding = false;
      skip_allowed = false;
      lossless = false;
      persistent = false;
      skip_context = false;
      explicit_rdpcm = false;
      implicit_rdpcm = false;
      inter = false;
      aligning = aligning;
      extended = false;
    }

unfoldable pub contexts : List ℕ
contexts = replicate context_count 64

unfoldable pub stats : List ℕ
stats = replicate 4 0

unfoldable pub lent : List ℤ
lent = replicate 16 (pos 7)

-- the number answered, and the position behind an accepted block
unfoldable pub number_of : Answer FoundAt → ℕ
number_of (accepted f) = 0
number_of (refused n) = n

unfoldable pub next_place : Answer FoundAt → ℕ
next_place (accepted f) = place f.next
next_place (refused n) = 0

-- of a pair, from the first's starting state with a total of t: the position reached, the bits past the end that were drawn, the numbers answered and the positions behind, by both
pub record Facts : Type 0 where
  pub first : ℕ
  pub second : ℕ
  pub reaches : ℕ
  pub past : ℕ
  pub numbers : List ℕ
  pub places : List ℕ

-- a state fresh from start, but for its total
abbrev pub from : ℕ → List ℕ → Engine
from t l = record { range = (started l).range; offset = (started l).offset; position = (started l).position; ended = (started l).ended; past = t }

unfoldable pub facts : ℕ → Bool → List ℕ → List ℕ → Facts
unfolding params contexts stats lent number_of next_place
facts t aligning l m =
    let p = params aligning in
    let e = from t l in
    let a = (read_payload l e contexts stats p lent).answer in
    let b = (read_payload m e contexts stats p lent).answer in
    record {
      first = payload_refusal l;
      second = payload_refusal m;
      reaches = place (reached l e contexts stats p lent);
      past = drew_past l e contexts stats p lent;
      numbers = number_of a ∷ number_of b ∷ [];
      places = next_place a ∷ next_place b ∷ [];
    }

abbrev pub is : ℕ → ℕ → List ℕ → List ℕ → Facts
is r b ns ps = record { first = 0; second = 0; reaches = r; past = b; numbers = ns; places = ps }

-- ---- payloads
abbrev pub one : List ℕ
one = 0xfe ∷ 0x80 ∷ []

abbrev pub like_one : List ℕ
like_one = 0xfe ∷ 0x87 ∷ 0x12 ∷ []

abbrev pub long_prefix : List ℕ
long_prefix = 0xca ∷ 0x7f ∷ 0xff ∷ 0xff ∷ 0xff ∷ 0xff ∷ 0x80 ∷ []

abbrev pub like_long_prefix : List ℕ
like_long_prefix = 0xca ∷ 0x7f ∷ 0xff ∷ 0xff ∷ 0xff ∷ 0xff ∷ 0xd5 ∷ []

abbrev pub misaligned : List ℕ
misaligned = 0x00 ∷ 0x07 ∷ 0xff ∷ 0xff ∷ 0xff ∷ []

abbrev pub like_misaligned : List ℕ
like_misaligned = 0x00 ∷ 0x07 ∷ 0xff ∷ 0xff ∷ 0xfc ∷ 0x55 ∷ []

abbrev pub short : List ℕ
short = 0x75 ∷ 0x00 ∷ []

abbrev pub longer : List ℕ
longer = 0x75 ∷ 0x00 ∷ 0xff ∷ []

-- accepted: 13 bits are drawn of FE 80, and the 13 of FE 87 12 are the same
pub accepted_pair : facts 0 false one like_one ≡ is 13 0 (0 ∷ 0 ∷ []) (13 ∷ 13 ∷ [])
unfolding facts bits range_tab_lps trans_idx_mps trans_idx_lps lps_of on_mps on_lps fetched started split_by split decided bypassed range_aligned count_leading_zeros ◌>>=◌ run by_engine bits_s ones_s prefix_s ◌or_else◌ payload_refusal possible state_refusal context_refusal ended_refusal scan_order number_in sig_ctx spot_in wanted_in down_from least_of last_prefix groups_s head_s remainder_s residual within_limits parameter_refusal contexts_refusal statistic_refusal statistics_refusal read_by_engine read_payload_by read_payload state_of reached_by reached drew_past
accepted_pair = refl

-- the same from a state that comes with a total of 65,535: none is drawn past the end by this run
pub total_pair : facts 65535 false one like_one ≡ is 13 0 (0 ∷ 0 ∷ []) (13 ∷ 13 ∷ [])
unfolding facts bits range_tab_lps trans_idx_mps trans_idx_lps lps_of on_mps on_lps fetched started split_by split decided bypassed range_aligned count_leading_zeros ◌>>=◌ run by_engine bits_s ones_s prefix_s ◌or_else◌ payload_refusal possible state_refusal context_refusal ended_refusal scan_order number_in sig_ctx spot_in wanted_in down_from least_of last_prefix groups_s head_s remainder_s residual within_limits parameter_refusal contexts_refusal statistic_refusal statistics_refusal read_by_engine read_payload_by read_payload state_of reached_by reached drew_past
total_pair = refl

-- 8, at the 35th one of a prefix: 49 bits are drawn
pub by_8_pair : facts 0 false long_prefix like_long_prefix ≡ is 49 0 (8 ∷ 8 ∷ []) (0 ∷ 0 ∷ [])
unfolding facts bits range_tab_lps trans_idx_mps trans_idx_lps lps_of on_mps on_lps fetched started split_by split decided bypassed range_aligned count_leading_zeros ◌>>=◌ run by_engine bits_s ones_s prefix_s ◌or_else◌ payload_refusal possible state_refusal context_refusal ended_refusal scan_order number_in sig_ctx spot_in wanted_in down_from least_of last_prefix groups_s head_s remainder_s residual within_limits parameter_refusal contexts_refusal statistic_refusal statistics_refusal read_by_engine read_payload_by read_payload state_of reached_by reached drew_past
by_8_pair = refl

-- 7, at an alignment: 38 bits are drawn
pub by_7_pair : facts 0 true misaligned like_misaligned ≡ is 38 0 (7 ∷ 7 ∷ []) (0 ∷ 0 ∷ [])
unfolding facts bits range_tab_lps trans_idx_mps trans_idx_lps lps_of on_mps on_lps fetched started split_by split decided bypassed range_aligned count_leading_zeros ◌>>=◌ run by_engine bits_s ones_s prefix_s ◌or_else◌ payload_refusal possible state_refusal context_refusal ended_refusal scan_order number_in sig_ctx spot_in wanted_in down_from least_of last_prefix groups_s head_s remainder_s residual within_limits parameter_refusal contexts_refusal statistic_refusal statistics_refusal read_by_engine read_payload_by read_payload state_of reached_by reached drew_past
by_7_pair = refl

-- ---- why the first run must draw none past its end: 75 00 reaches its end, at bit 16, by a bit that is supplied; 75 00 FF has those 16 bits, and goes on to bit 17
pub over_pair : facts 0 false short longer ≡ is 16 1 (0 ∷ 0 ∷ []) (16 ∷ 17 ∷ [])
unfolding facts bits range_tab_lps trans_idx_mps trans_idx_lps lps_of on_mps on_lps fetched started split_by split decided bypassed range_aligned count_leading_zeros ◌>>=◌ run by_engine bits_s ones_s prefix_s ◌or_else◌ payload_refusal possible state_refusal context_refusal ended_refusal scan_order number_in sig_ctx spot_in wanted_in down_from least_of last_prefix groups_s head_s remainder_s residual within_limits parameter_refusal contexts_refusal statistic_refusal statistics_refusal read_by_engine read_payload_by read_payload state_of reached_by reached drew_past
over_pair = refl

pub over_agrees : (i : ℕ) → i < 16 → bit_at short i ≡ bit_at longer i
over_agrees = eq_below (bit_at short) (bit_at longer) 16 tt

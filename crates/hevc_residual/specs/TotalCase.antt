-- A block that meets what `start_total` asks, computed from the definitions: of the payload 75 00 a reader wants one bit more than there is.
use Rattle.std.specs.Prelude.{ℕ, ◌-◌, min, ◌≡◌, refl, List, [], ◌∷◌, true, false, replicate, ℤ, pos}
use Rattle.std.proofs.Common.{arith}
use Rattle.std.specs.Int.Count.{count_leading_zeros}
use Rattle.bins.specs.declared.state.Engine.{Engine}
use Rattle.bins.specs.Bits.{bits}
use Rattle.tables.specs.Tables.{range_tab_lps, trans_idx_mps, trans_idx_lps, lps_of, on_mps, on_lps}
use Rattle.bins.specs.Engine.{fetched, started, split_by, split, decided, bypassed}
use Rattle.bins.specs.Tags.{context_count}
use Rattle.bins.specs.Syn.{◌>>=◌, run, by_engine}
use Rattle.bins.specs.Readers.{bits_s, ones_s, prefix_s}
use Rattle.cabac.specs.Numbers.{accepted, ◌or_else◌, unless, payload_refusal, possible, state_refusal, context_refusal, offset_refusal, ended_refusal}
use Rattle.cabac.specs.Entries.{start}
use Rattle.hevc_residual.specs.declared.params.Params.{Params}
use Rattle.hevc_residual.specs.declared.params.Rdpcm.TheVariants as of_rdpcm
use Rattle.hevc_residual.specs.Scan.{scan_order, number_in, sig_ctx}
use Rattle.hevc_residual.specs.Wanted.{spot_in, wanted_in, down_from}
use Rattle.hevc_residual.specs.Head.{least_of, last_prefix, groups_s, head_s}
use Rattle.hevc_residual.specs.Remainder.{remainder_s}
use Rattle.hevc_residual.specs.Residual.{residual}
use Rattle.hevc_residual.specs.Numbers.{within_limits, parameter_refusal, contexts_refusal, statistic_refusal, statistics_refusal}
use Rattle.hevc_residual.specs.Entries.{FoundAt, PayloadRead, read_by_engine, read_payload_by, read_payload}
use Rattle.hevc_residual.specs.TotalLaws.{drew_since, start_total}
use Rattle.hevc_residual.specs.AllOff.{all_off}

abbrev payload : List ℕ
payload = 0x75 ∷ 0x00 ∷ []

-- the contexts of 120 initial values 154
abbrev contexts : List ℕ
contexts = replicate context_count 64

abbrev stats : List ℕ
stats = replicate 4 0

-- 4x4 luma, scan 0, all options off
abbrev plain : Params
plain =
    all_off 2 true 0 8 false

abbrev block : List ℤ
block = replicate 16 (pos 0)

abbrev begun : Engine
begun = record { range = 510; offset = 234; position = record { 0 = 9 }; ended = false; past = 0 }

abbrev read : FoundAt
read =
    record {
      found = record { skip = false; rdpcm = of_rdpcm.None; column = 1; row = 1; greatest = 1 };
      next = record { range = 256; offset = 1; position = record { 0 = 16 }; ended = false; past = 1 };
    }

pub starts : start payload ≡ accepted begun
unfolding bits fetched started ◌or_else◌ unless payload_refusal offset_refusal start
starts = refl

pub reads : (read_payload payload begun contexts stats plain block).answer ≡ accepted read
unfolding bits range_tab_lps trans_idx_mps trans_idx_lps lps_of on_mps on_lps fetched split_by split decided bypassed count_leading_zeros ◌>>=◌ run by_engine bits_s ones_s prefix_s ◌or_else◌ payload_refusal possible state_refusal context_refusal ended_refusal scan_order number_in sig_ctx spot_in wanted_in down_from least_of last_prefix groups_s head_s remainder_s residual within_limits parameter_refusal contexts_refusal statistic_refusal statistics_refusal read_by_engine read_payload_by read_payload
reads = refl

-- the total is 1: the start and the block drew 17 bits, and 16 are there
pub drew_one_more : drew_since payload contexts stats plain block begun ≡ 17
drew_one_more =
    let t : 1 ≡ min 65535 (drew_since payload contexts stats plain block begun - 16) = start_total payload contexts stats plain block begun read starts reads in
    omega arith

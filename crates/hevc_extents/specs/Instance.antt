-- The marked case of request (iii): levels at (1,0) and (0,1) of a diagonal 4x4, column 1 and row 1. Assumes nothing.
use Rattle.std.specs.Prelude.{ℕ, ◌≡◌, refl, List, [], ◌∷◌, true, false, replicate, ℤ, pos}
use Rattle.bins.specs.Tags.{is_entry}
use Rattle.bins.specs.Syn.{◌>>=◌, run, by_list}
use Rattle.bins.specs.Readers.{bits_s, ones_s, prefix_s}
use Rattle.cabac.specs.Numbers.{accepted, ◌or_else◌, unless}
use Rattle.hevc_residual.specs.declared.params.Params.{Params}
use Rattle.hevc_residual.specs.declared.params.Rdpcm.TheVariants as of_rdpcm
use Rattle.hevc_residual.specs.Scan.{scan_order, number_in, sig_ctx}
use Rattle.hevc_residual.specs.Wanted.{spot_in, wanted_in, down_from}
use Rattle.hevc_residual.specs.Head.{least_of, last_prefix, groups_s, head_s}
use Rattle.hevc_residual.specs.Remainder.{remainder_s}
use Rattle.hevc_residual.specs.Extent.{Extents}
use Rattle.hevc_residual.specs.Residual.{residual}
use Rattle.hevc_residual.specs.Numbers.{within_limits, parameter_refusal, statistic_refusal, statistics_refusal}
use Rattle.hevc_residual.specs.Entries.{Found, read_from_list, read_bins_by, read_bins}
use Rattle.hevc_residual.specs.AllOff.{all_off}
use Rattle.hevc_extents.specs.EntryExtents.{list_extents}

-- 4x4 luma, scan 0, all options off
abbrev plain : Params
plain =
    all_off 2 true 0 8 false

abbrev bins : List ℕ
bins = 1 ∷ 0 ∷ 2 ∷ 0 ∷ 36 ∷ 0 ∷ 77 ∷ 0 ∷ 72 ∷ 0 ∷ 170 ∷ 0 ∷ 172 ∷ 0 ∷ 4 ∷ 1 ∷ 4 ∷ 1 ∷ []

abbrev stats : List ℕ
stats = replicate 4 0

abbrev lent : List ℤ
lent = replicate 17 (pos 7)

abbrev found : Found
found = record { skip = false; rdpcm = of_rdpcm.None; column = 1; row = 1; greatest = 1 }

marked_accepted : (read_bins bins stats plain lent).answer ≡ accepted found
unfolding is_entry ◌>>=◌ run by_list bits_s ones_s prefix_s ◌or_else◌ unless scan_order number_in sig_ctx spot_in wanted_in down_from least_of last_prefix groups_s head_s remainder_s residual within_limits parameter_refusal statistic_refusal statistics_refusal read_from_list read_bins_by read_bins
marked_accepted = refl

pub marked_extents : Extents plain (read_bins bins stats plain lent).block 1 1
marked_extents = list_extents bins stats plain lent found marked_accepted

-- Worked cases of H.264's block packed, by computation. So the theorems speak of something.
use Rattle.std.specs.Prelude.{ℕ, ◌≡◌, refl, List, [], ◌∷◌, replicate}
use Rattle.std.specs.Int.Count.{count_leading_zeros}
use Rattle.tables.specs.Tables.{range_tab_lps, trans_idx_mps, trans_idx_lps, lps_of, on_mps, on_lps}
use Rattle.bins.specs.Tags.{is_entry}
use Rattle.bins.specs.Syn.{◌>>=◌, run, by_list}
use Rattle.bins.specs.Readers.{bits_s, ones_s}
use Rattle.cabac.specs.Numbers.{accepted, refused, ◌or_else◌, context_refusal}
use Rattle.trees.specs.Lent.{contexts_refusal}
use Rattle.trees.specs.Shapes.{count_s, golomb_s}
use Rattle.packing.specs.Pack.{kind_of, entries_of, encoded, ctx_after, packed_bin, packed_entry, packed, octets, filled, flushed, payload_of}
use Rattle.packing.specs.Entries.{pack_into_by, pack_into, pack_list, pack_tree}
use Rattle.h264_block.specs.Layout.{at_magnitude}
use Rattle.h264_block.specs.Block.{block, places_s, magnitude_s, levels_s}
use Rattle.h264_packer.specs.Entries.{pack_bins}

contexts : List ℕ
contexts = replicate 40 64

-- level 1 at place 0: significant, last, magnitude 1, positive
one : List ℕ
one = 0x01 ∷ 0 ∷ 0x1f ∷ 0 ∷ 0x3e ∷ 0 ∷ 0x04 ∷ 1 ∷ []

-- accepted in 12 bits, the room beyond it as it was; a byte less is 12; a list that ends early is 13, in no room too; 3 before all
packs_one : pack_bins contexts one (9 ∷ 9 ∷ 9 ∷ []) ≡ record { answer = accepted 2; room = 0x36 ∷ 0xf0 ∷ 9 ∷ [] }
unfolding contexts one pack_bins pack_tree pack_list pack_into pack_into_by entries_of kind_of packed packed_entry packed_bin encoded ctx_after payload_of filled octets flushed lps_of on_mps on_lps range_tab_lps trans_idx_mps trans_idx_lps count_leading_zeros is_entry ◌>>=◌ run by_list bits_s ones_s ◌or_else◌ context_refusal contexts_refusal count_s golomb_s at_magnitude block places_s magnitude_s levels_s
packs_one = refl

no_room : pack_bins contexts one (9 ∷ []) ≡ record { answer = refused 12; room = 9 ∷ [] }
unfolding contexts one pack_bins pack_tree pack_list pack_into pack_into_by entries_of kind_of packed packed_entry packed_bin encoded ctx_after payload_of filled octets flushed lps_of on_mps on_lps range_tab_lps trans_idx_mps trans_idx_lps count_leading_zeros is_entry ◌>>=◌ run by_list bits_s ones_s ◌or_else◌ context_refusal contexts_refusal count_s golomb_s at_magnitude block places_s magnitude_s levels_s
no_room = refl

no_list_lem : pack_bins contexts (0x01 ∷ 0 ∷ 0x1f ∷ 0 ∷ []) [] ≡ record { answer = refused 13; room = [] }
unfolding contexts pack_bins pack_tree pack_list pack_into pack_into_by entries_of kind_of packed packed_entry packed_bin encoded ctx_after payload_of filled octets flushed lps_of on_mps on_lps range_tab_lps trans_idx_mps trans_idx_lps count_leading_zeros is_entry ◌>>=◌ run by_list bits_s ones_s ◌or_else◌ context_refusal contexts_refusal count_s golomb_s at_magnitude block places_s magnitude_s levels_s
no_list_lem = refl

no_contexts : pack_bins (128 ∷ replicate 39 64) [] [] ≡ record { answer = refused 3; room = [] }
unfolding pack_bins pack_tree ◌or_else◌ context_refusal contexts_refusal
no_contexts = refl

-- Worked cases of the scale, and of bin lists in bytes: one table, and one statement about the definitions.
use Rattle.std.specs.Prelude.{ℕ, zero, suc, ◌-◌, ◌≡◌, refl, List, [], ◌∷◌, ◌++◌, Bool, true, false, ◌&&◌, length, take, drop, set, replicate, eqb, ℤ, pos, negsuc}
use Rattle.std.specs.Bool.{beq}
use Rattle.std.specs.Int.Count.{count_leading_zeros}
use Rattle.tables.specs.Tables.{range_tab_lps, trans_idx_mps, trans_idx_lps, lps_of, on_mps, on_lps}
use Rattle.bins.specs.declared.state.Engine.{Engine}
use Rattle.bins.specs.Bits.{bits}
use Rattle.bins.specs.Engine.{place, fetched, split_by, split, decided, bypassed}
use Rattle.bins.specs.Tags.{context_count, entry, tag, bypass_no, is_entry}
use Rattle.bins.specs.Syn.{◌>>=◌, run, by_engine, by_list, write}
use Rattle.bins.specs.Readers.{bits_s, ones_s, prefix_s}
use Rattle.cabac.specs.Numbers.{Answer, accepted, refused, ◌or_else◌, unless, payload_refusal, possible, state_refusal, context_refusal, offset_refusal, ended_refusal}
use Rattle.hevc_residual.specs.declared.params.Params.{Params}
use Rattle.hevc_residual.specs.declared.params.Rdpcm.TheVariants as of_rdpcm
use Rattle.hevc_residual.specs.Scan.{scan_order, number_in, sig_ctx}
use Rattle.hevc_residual.specs.Wanted.{spot_in, wanted_in, down_from}
use Rattle.hevc_residual.specs.Head.{least_of, last_prefix, groups_s, head_s}
use Rattle.hevc_residual.specs.Remainder.{remainder_s}
use Rattle.hevc_residual.specs.Residual.{residual}
use Rattle.hevc_residual.specs.Refusal.{write_refusal}
use Rattle.hevc_residual.specs.Numbers.{within_limits, parameter_refusal, contexts_refusal, statistic_refusal, statistics_refusal, room_refusal}
use Rattle.hevc_residual.specs.Entries as block
use Rattle.hevc_residual.specs.AllOff.{all_off}
use Rattle.hevc_cross.specs.Scale.{scale_s, is_scale}
use Rattle.hevc_cross.specs.Entries.{component_refusal, scale_refusal, PayloadRead, read_by_engine, read_payload_by, read_payload, read_from_list, read_bins_by, read_bins, BinsWritten, write_list_by, write_list, write_bins_by, write_bins}

-- running, at a bit place, with so many bits past the end
at : ℕ → ℕ → ℕ → ℕ → Engine
at range offset position past = record { range = range; offset = offset; position = record { 0 = position }; ended = false; past = past }

ended : Engine
ended = record { range = 1; offset = 1; position = record { 0 = 1 }; ended = true; past = 0 }

pub data Case : Type 0 where
  both_ways : ℕ → ℤ → List ℕ → Case  -- component, scale, list: written as it, read as it
  write_no : ℕ → ℤ → ℕ → ℕ → Case  -- component, scale, room, number given
  list_no : ℕ → List ℕ → ℕ → Case  -- component, list, number given
  payload_case : ℕ → List ℕ → Engine → ℤ → Engine → List ℕ → Case  -- component, payload, state, scale, state behind it, contexts changed as number, byte, ..
  payload_no : ℕ → List ℕ → Engine → ℕ → Case  -- component, payload, state, number given
  block_no : List ℕ → ℕ → Case  -- a block's list, number given
  block_room : ℕ → ℕ → Case  -- room for level 1 at (0,0), number given

-- a block is 4x4 luma, scan 0, all options off; contexts are 64
pub table : List Case
unfolding at ended
table =
    both_ways 0 (pos 0) (0xf0 ∷ 0 ∷ [])
    ∷ both_ways 0 (pos 1) (0xf1 ∷ 0 ∷ 0xf2 ∷ 0 ∷ 0x00 ∷ 1 ∷ [])
    ∷ both_ways 0 (negsuc 0) (0xf1 ∷ 0 ∷ 0xf2 ∷ 0 ∷ 0x01 ∷ 1 ∷ [])
    ∷ both_ways 0 (pos 2) (0xf1 ∷ 0 ∷ 0xf3 ∷ 0 ∷ 0xf4 ∷ 0 ∷ 0x00 ∷ 1 ∷ [])
    ∷ both_ways 0 (negsuc 1) (0xf1 ∷ 0 ∷ 0xf3 ∷ 0 ∷ 0xf4 ∷ 0 ∷ 0x01 ∷ 1 ∷ [])
    ∷ both_ways 0 (pos 4) (0xf1 ∷ 0 ∷ 0xf3 ∷ 0 ∷ 0xf5 ∷ 0 ∷ 0xf6 ∷ 0 ∷ 0x00 ∷ 1 ∷ [])
    ∷ both_ways 0 (negsuc 3) (0xf1 ∷ 0 ∷ 0xf3 ∷ 0 ∷ 0xf5 ∷ 0 ∷ 0xf6 ∷ 0 ∷ 0x01 ∷ 1 ∷ [])
    ∷ both_ways 0 (pos 8) (0xf1 ∷ 0 ∷ 0xf3 ∷ 0 ∷ 0xf5 ∷ 0 ∷ 0xf7 ∷ 0 ∷ 0x00 ∷ 1 ∷ [])
    ∷ both_ways 0 (negsuc 7) (0xf1 ∷ 0 ∷ 0xf3 ∷ 0 ∷ 0xf5 ∷ 0 ∷ 0xf7 ∷ 0 ∷ 0x01 ∷ 1 ∷ [])
    ∷ both_ways 1 (pos 0) (0xf8 ∷ 0 ∷ [])
    ∷ both_ways 1 (negsuc 7) (0xf9 ∷ 0 ∷ 0xfb ∷ 0 ∷ 0xfd ∷ 0 ∷ 0xff ∷ 0 ∷ 0x03 ∷ 1 ∷ [])
    ∷ write_no 2 (pos 0) 12 4
    ∷ write_no 0 (pos 3) 12 4
    ∷ write_no 0 (pos 16) 12 4
    ∷ write_no 1 (negsuc 2) 12 4
    ∷ write_no 2 (pos 0) 0 4
    ∷ write_no 0 (negsuc 7) 10 0
    ∷ write_no 0 (negsuc 7) 9 12
    ∷ write_no 0 (pos 0) 1 12
    ∷ list_no 0 [] 13
    ∷ list_no 0 (0xf0 ∷ []) 13
    ∷ list_no 0 (0xf0 ∷ 0 ∷ 0 ∷ []) 13
    ∷ list_no 0 (0xf1 ∷ 0 ∷ 0xf2 ∷ 0 ∷ []) 13
    ∷ list_no 0 (0xf1 ∷ 0 ∷ 0xf2 ∷ 0 ∷ 0x01 ∷ []) 13
    ∷ list_no 0 (0xf0 ∷ 0 ∷ 0x00 ∷ 1 ∷ []) 13
    ∷ list_no 0 (0xf8 ∷ 0 ∷ []) 13
    ∷ list_no 0 (0xf1 ∷ 0 ∷ 0xf2 ∷ 0 ∷ 0x04 ∷ 1 ∷ []) 13
    ∷ list_no 2 [] 4
    ∷ payload_case 0 (0xfe ∷ 0xc0 ∷ []) (at 510 509 9 0) (pos 0) (at 480 479 10 0) (120 ∷ 0x00 ∷ [])
    ∷ payload_case 0 (0x86 ∷ 0xe0 ∷ []) (at 510 269 9 0) (pos 1) (at 256 255 11 0) (120 ∷ 0x41 ∷ 121 ∷ 0x00 ∷ 128 ∷ 0x00 ∷ [])
    ∷ payload_case 1 (0x0b ∷ 0xf8 ∷ []) (at 510 23 9 0) (negsuc 7) (at 384 383 13 0) (124 ∷ 0x41 ∷ 125 ∷ 0x41 ∷ 126 ∷ 0x41 ∷ 127 ∷ 0x41 ∷ 129 ∷ 0x41 ∷ [])
    ∷ payload_case 1 (0xfe ∷ 0xfe ∷ []) (at 510 509 16 2) (pos 0) (at 480 479 16 3) (124 ∷ 0x00 ∷ [])
    ∷ payload_no 2 (0x00 ∷ []) (at 1 1 1 0) 1
    ∷ payload_no 2 (0x00 ∷ 0x00 ∷ []) (at 1 1 1 0) 4
    ∷ payload_no 0 (0x00 ∷ 0x00 ∷ []) (at 1 1 1 0) 3
    ∷ payload_no 0 (0x00 ∷ 0x00 ∷ []) ended 6
    ∷ block_no (0x00 ∷ 0 ∷ 0x24 ∷ 0 ∷ 0xaa ∷ 0 ∷ 0x04 ∷ 1 ∷ []) 0
    ∷ block_no (0x00 ∷ 0 ∷ 0x24 ∷ 0 ∷ 0xaa ∷ 0 ∷ 0x04 ∷ 1 ∷ 0 ∷ []) 13
    ∷ block_no (0x00 ∷ 0 ∷ 0x24 ∷ 0 ∷ 0xaa ∷ 0 ∷ 0x04 ∷ []) 13
    ∷ block_no (0xf0 ∷ 0 ∷ 0x24 ∷ 0 ∷ 0xaa ∷ 0 ∷ 0x04 ∷ 1 ∷ []) 13
    ∷ block_no (0x00 ∷ 0 ∷ 0x24 ∷ 0 ∷ 0xaa ∷ 0 ∷ 0x07 ∷ 1 ∷ []) 13
    ∷ block_no (0x00 ∷ 0 ∷ 0x24 ∷ 0 ∷ 0xab ∷ 0 ∷ 0xd9 ∷ 0 ∷ 0x04 ∷ 1 ∷ ones 35 (0 ∷ [])) 8
    ∷ block_no (0x00 ∷ 0 ∷ 0x24 ∷ 0 ∷ 0xab ∷ 0 ∷ 0xd9 ∷ 0 ∷ 0x04 ∷ 1 ∷ ones 34 (0x05 ∷ [])) 13
    ∷ block_room 8 0
    ∷ block_room 7 12
    ∷ []
  where
    ones : ℕ → List ℕ → List ℕ
    ones zero l = l
    ones (suc n) l = 0x05 ∷ 1 ∷ ones n l

-- ---- the test
sameℤ : ℤ → ℤ → Bool
sameℤ (pos a) (pos b) = eqb a b
sameℤ (negsuc a) (negsuc b) = eqb a b
sameℤ (pos a) (negsuc b) = false
sameℤ (negsuc a) (pos b) = false

same_list : List ℕ → List ℕ → Bool
same_list [] [] = true
same_list (a ∷ x) [] = false
same_list [] (b ∷ y) = false
same_list (a ∷ x) (b ∷ y) = eqb a b && same_list x y

same_state : Engine → Engine → Bool
same_state e f =
    eqb e.range f.range
    && (eqb e.offset f.offset && (eqb (place e) (place f) && (beq e.ended f.ended && eqb e.past f.past)))

passing : {A : Type 0} → Answer A → (A → Bool) → Bool
passing (accepted a) test = test a
passing (refused n) test = false

number_of : {A : Type 0} → Answer A → ℕ
number_of (accepted a) = 0
number_of (refused n) = n

-- contexts with some of them changed
changed : List ℕ → List ℕ → List ℕ
changed [] cs = cs
changed (i ∷ []) cs = cs
changed (i ∷ v ∷ is) cs = changed is (set cs i v)

lent : ℕ → List ℕ
lent n = replicate n 255

contexts : List ℕ
contexts = replicate context_count 64

plain : Params
plain =
    all_off 2 true 0 8 false

passes : Case → Bool
unfolding sameℤ same_list same_state passing number_of changed lent contexts plain
passes (both_ways c z l) =
    (let w = write_bins c z (lent 12) in passing w.answer (eqb (length l)) && same_list w.room (l ++ drop (length l) (lent 12)))
    && passing (read_bins l c) (sameℤ z)
passes (write_no c z n number) = eqb (number_of (write_bins c z (lent n)).answer) number
passes (list_no c l n) = eqb (number_of (read_bins l c)) n
passes (payload_case c l e z f cs) =
    let r = read_payload l e contexts c in
    passing r.answer (λ s. sameℤ s.scale z && same_state s.next f) && same_list r.contexts (changed cs contexts)
passes (payload_no c l e n) = let r = read_payload l e contexts c in eqb (number_of r.answer) n && same_list r.contexts contexts
passes (block_no l n) = eqb (number_of (block.read_bins l (replicate 4 0) plain (replicate 16 (pos 7))).answer) n
passes (block_room n number) =
    eqb (number_of (block.write_bins plain (replicate 4 0) (pos 1 ∷ replicate 15 (pos 0)) false of_rdpcm.None (lent n)).answer) number

pub all_pass : List Case → Bool
unfolding passes
all_pass [] = true
all_pass (c ∷ cs) = passes c && all_pass cs

-- the statement
pub cases : all_pass table ≡ true
unfolding all_pass table is_entry bits range_tab_lps trans_idx_mps trans_idx_lps lps_of on_mps on_lps fetched split_by split decided bypassed count_leading_zeros ◌>>=◌ run by_engine by_list write bits_s ones_s prefix_s ◌or_else◌ unless payload_refusal possible state_refusal context_refusal offset_refusal ended_refusal scan_order number_in sig_ctx spot_in wanted_in down_from least_of last_prefix groups_s head_s remainder_s residual write_refusal within_limits parameter_refusal contexts_refusal statistic_refusal statistics_refusal room_refusal block.read_from_list block.read_bins_by block.read_bins block.write_list_by block.write_list block.write_bins_by block.write_bins scale_s is_scale component_refusal scale_refusal read_by_engine read_payload_by read_payload read_from_list read_bins_by read_bins write_list_by write_list write_bins_by write_bins
cases = refl

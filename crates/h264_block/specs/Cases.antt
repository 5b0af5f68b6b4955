-- Worked cases of H.264's block: one table, and one statement about the definitions. They have what real streams do not: the range's ends, a suffix prefix of 16
-- ones, place 15 alone, each number and the order of two.
use Rattle.std.specs.Prelude.{ℕ, zero, suc, ◌+◌, ◌-◌, ◌≡◌, refl, List, [], ◌∷◌, ◌++◌, Bool, true, false, not, ◌&&◌, length, take, drop, set, replicate, eqb, ℤ, pos, negsuc}
use Rattle.bins.specs.Syn.{◌>>=◌, run, by_list, write}
use Rattle.bins.specs.Readers.{bits_s, ones_s}
use Rattle.cabac.specs.Numbers.{Answer, accepted, refused, ◌or_else◌}
use Rattle.bins.specs.Tags.{entry, is_entry}
use Rattle.trees.specs.Levels.{down_from, greatest_of, all_zero, too_far}
use Rattle.trees.specs.Lent.{room_refusal}
use Rattle.trees.specs.Shapes.{count_s, golomb_s}
use Rattle.h264_block.specs.Layout.{at_magnitude}
use Rattle.h264_block.specs.Block.{block, places_s, magnitude_s, levels_s}
use Rattle.h264_block.specs.Contexts.{raised, within, pre_raised, initial, all_within, pairs_refusal}
use Rattle.h264_block.specs.Refusal.{write_refusal}
use Rattle.h264_block.specs.Entries.{block_refusal, BinsRead, read_from_list, read_bins_by, read_bins, BinsWritten, write_list_by, write_list, write_bins_by, write_bins}

pub data Case : Type 0 where
  both_ways : List ℤ → List ℕ → Case  -- block, entries: written as them, read from them
  wrote : List ℤ → ℕ → ℕ → Case  -- block, room, number given by the writer; what it accepts is read back
  read_as : List ℕ → ℕ → Case  -- entries, number given by the bin reader
  read_into : List ℕ → ℕ → ℕ → Case  -- entries, places of the block lent, number
  pairs : List ℤ → ℕ → Case  -- pairs, number
  inits : ℤ → ℤ → ℕ → ℕ → Case  -- m, n, quantiser, context

-- entries as bytes
unfoldable pub listed : List ℕ → List ℕ
listed [] = []
listed (t ∷ l) = entry t (listed l)

abbrev pub at : ℕ → ℤ → List ℤ
at k z = set (replicate 16 (pos 0)) k z

-- the levels at the first places, zeros behind them
abbrev pub first : List ℤ → List ℤ
first l = l ++ replicate (16 - length l) (pos 0)

-- place 0 is the last; its magnitude has 14 ones, then so many ones of the suffix, then the rest
abbrev pub suffixed : ℕ → List ℕ → List ℕ
suffixed n rest = 1 ∷ 31 ∷ 63 ∷ (replicate 13 71 ++ (replicate n 261 ++ rest))

unfoldable pub number_of : {A : Type 0} → Answer A → ℕ
number_of (accepted a) = 0
number_of (refused n) = n

unfoldable pub sameℤ : ℤ → ℤ → Bool
sameℤ (pos a) (pos b) = eqb a b
sameℤ (negsuc a) (negsuc b) = eqb a b
sameℤ (pos a) (negsuc b) = false
sameℤ (negsuc a) (pos b) = false

unfoldable pub same_list : List ℤ → List ℤ → Bool
unfolding sameℤ
same_list [] [] = true
same_list (a ∷ x) [] = false
same_list [] (b ∷ y) = false
same_list (a ∷ x) (b ∷ y) = sameℤ a b && same_list x y

unfoldable pub same_bytes : List ℕ → List ℕ → Bool
same_bytes [] [] = true
same_bytes (a ∷ x) [] = false
same_bytes [] (b ∷ y) = false
same_bytes (a ∷ x) (b ∷ y) = eqb a b && same_bytes x y

unfoldable pub back_as : Answer ℕ → List ℕ → List ℤ → Bool
back_as (refused n) room l = true
back_as (accepted n) room l = same_list (read_bins (take n room) (replicate 16 (pos 7))).block (take 16 l)

unfoldable pub passes : List Case → Bool
passes [] = true
passes (both_ways l ts ∷ cs) =
    same_bytes (write_bins l (replicate 99 255)).room (listed ts ++ replicate (99 - length (listed ts)) 255)
    && (same_list (read_bins (listed ts) (replicate 16 (pos 7))).block l && passes cs)
passes (wrote l n r ∷ cs) =
    eqb (number_of (write_bins l (replicate n 255)).answer) r
    && (back_as (write_bins l (replicate n 255)).answer (write_bins l (replicate n 255)).room l && passes cs)
passes (read_as l r ∷ cs) = eqb (number_of (read_bins (listed l) (replicate 16 (pos 7))).answer) r && passes cs
passes (read_into l n r ∷ cs) = eqb (number_of (read_bins (listed l) (replicate n (pos 7))).answer) r && passes cs
passes (pairs l r ∷ cs) = eqb (pairs_refusal l) r && passes cs
passes (inits m n q c ∷ cs) = eqb (initial m n q) c && passes cs

abbrev pub table : List Case
table =
    both_ways (at 0 (pos 1)) (1 ∷ 31 ∷ 62 ∷ 260 ∷ [])
    ∷ both_ways (at 14 (pos 1)) (0 ∷ 2 ∷ 4 ∷ 6 ∷ 8 ∷ 10 ∷ 12 ∷ 14 ∷ 16 ∷ 18 ∷ 20 ∷ 22 ∷ 24 ∷ 26 ∷ 29 ∷ 59 ∷ 62 ∷ 260 ∷ [])
    ∷ both_ways (at 15 (pos 1)) (0 ∷ 2 ∷ 4 ∷ 6 ∷ 8 ∷ 10 ∷ 12 ∷ 14 ∷ 16 ∷ 18 ∷ 20 ∷ 22 ∷ 24 ∷ 26 ∷ 28 ∷ 62 ∷ 260 ∷ [])
    ∷ both_ways (first (pos 3 ∷ pos 2 ∷ pos 1 ∷ negsuc 0 ∷ [])) (1 ∷ 30 ∷ 3 ∷ 32 ∷ 5 ∷ 34 ∷ 7 ∷ 37 ∷ 62 ∷ 261 ∷ 64 ∷ 260 ∷ 67 ∷ 70 ∷ 260 ∷ 61 ∷ 73 ∷ 72 ∷ 260 ∷ [])
    ∷ both_ways (first (pos 1 ∷ pos 1 ∷ pos 1 ∷ pos 1 ∷ pos 1 ∷ pos 1 ∷ [])) (1 ∷ 30 ∷ 3 ∷ 32 ∷ 5 ∷ 34 ∷ 7 ∷ 36 ∷ 9 ∷ 38 ∷ 11 ∷ 41 ∷ 62 ∷ 260 ∷ 64 ∷ 260 ∷ 66 ∷ 260 ∷ 68 ∷ 260 ∷ 68 ∷ 260 ∷ 68 ∷ 260 ∷ [])  -- four is the most
    ∷ wrote (at 0 (pos 32767)) 99 0
    ∷ wrote (at 0 (pos 32768)) 99 8
    ∷ wrote (at 0 (negsuc 32767)) 99 0  -- −32768
    ∷ wrote (at 0 (negsuc 32768)) 99 8  -- −32769
    ∷ wrote (at 15 (pos 1)) 34 0  -- 15 flags, one bin, a sign
    ∷ wrote (at 15 (pos 1)) 33 12
    ∷ wrote (at 0 (pos 15)) 99 0  -- 14 ones, no suffix ones
    ∷ wrote (at 0 (pos 14)) 99 0  -- 13 ones and a zero
    ∷ wrote (replicate 16 (pos 0)) 0 9
    ∷ wrote (replicate 16 (pos 0) ++ (pos 99999 ∷ [])) 0 9  -- place 16 is no part of the block
    ∷ wrote (replicate 15 (pos 99999)) 0 4
    ∷ read_as (suffixed 16 []) 8  -- at once: nothing follows the 16 ones
    ∷ read_as (suffixed 15 (260 ∷ (replicate 15 260 ++ (260 ∷ [])))) 8  -- 1 + 14 + 32767 = 32782: behind the sign
    ∷ read_as (suffixed 15 (260 ∷ replicate 15 260)) 13  -- and not before it
    ∷ read_as (suffixed 15 []) 13
    ∷ read_as (1 ∷ 31 ∷ 62 ∷ 260 ∷ []) 0
    ∷ read_as (1 ∷ 31 ∷ 62 ∷ 260 ∷ 260 ∷ []) 13
    ∷ read_as (1 ∷ 31 ∷ 62 ∷ []) 13
    ∷ read_as (1 ∷ 33 ∷ 62 ∷ 260 ∷ []) 13
    ∷ read_as (1 ∷ 31 ∷ 62 ∷ 262 ∷ []) 13  -- an alignment entry is another tag
    ∷ read_as (1 ∷ 31 ∷ 80 ∷ 260 ∷ []) 13  -- so is context 40
    ∷ read_into [] 15 4
    ∷ read_into [] 16 13
    ∷ pairs (replicate 80 (pos 127)) 0
    ∷ pairs (replicate 80 (negsuc 127)) 0
    ∷ pairs (replicate 79 (pos 0) ++ (pos 128 ∷ [])) 4
    ∷ pairs (negsuc 128 ∷ replicate 79 (pos 0)) 4
    ∷ pairs (replicate 79 (pos 0)) 4
    ∷ pairs (replicate 82 (pos 0)) 4
    ∷ inits (negsuc 0) (pos 64) 1 0  -- floor(−1/16) = −1: p is 63, packed 0
    ∷ inits (pos 127) (pos 127) 255 126
    ∷ inits (negsuc 127) (negsuc 127) 51 62
    ∷ []

pub cases_pass : passes table ≡ true
unfolding passes number_of back_as same_list same_bytes listed is_entry greatest_of block places_s magnitude_s levels_s at_magnitude count_s golomb_s down_from bits_s ones_s ◌>>=◌ run write by_list initial pre_raised raised read_bins read_bins_by read_from_list write_bins write_bins_by write_list write_list_by block_refusal room_refusal write_refusal all_zero too_far ◌or_else◌ pairs_refusal all_within within
cases_pass = refl

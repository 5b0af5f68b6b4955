-- What a fresh count gives of a block: for each 4x4 sub-block the number of its non-zero levels and the sum of their magnitudes; for the whole
-- both, and the map of the sub-blocks that hold a level.
use Rattle.std.specs.Prelude.{ℕ, ◌+◌, ◌*◌, ◌/◌, ◌%◌, ◌^◌, ◌≤◌, ◌<◌, min, ◌≡◌, List, get_or, length, ℤ, pos, nat_abs}
use Rattle.counting.specs.Count.{nonzero, sum_to, updated}
pub use Rattle.counting.specs.Sizes.{side, area}
use Rattle.hevc_summary.specs.declared.kept.Whole.{Whole}

-- ---- a block is n by n, n = 2^log2, row by row; its sub-blocks are numbered row by row too
-- sub-blocks in a row, and in all
abbrev pub width : ℕ → ℕ
width log2 = side log2 / 4

abbrev pub subs : ℕ → ℕ
subs log2 = width log2 * width log2

-- where place k of sub-block s stands in the block
abbrev pub cell : ℕ → ℕ → ℕ → ℕ
cell log2 s k = (4 * (s / width log2) + k / 4) * side log2 + (4 * (s % width log2) + k % 4)

-- the sub-block in which a place of the block stands
abbrev pub sub_of : ℕ → ℕ → ℕ
sub_of log2 place = place / side log2 / 4 * width log2 + place % side log2 / 4

abbrev pub level_at : List ℤ → ℕ → ℤ
level_at levels place = get_or levels place (pos 0)

-- ---- the fresh count
unfoldable pub count_in : ℕ → List ℤ → ℕ → ℕ
count_in log2 levels s = sum_to 16 (λ k. nonzero (level_at levels (cell log2 s k)))

unfoldable pub sum_in : ℕ → List ℤ → ℕ → ℕ
sum_in log2 levels s = sum_to 16 (λ k. nat_abs (level_at levels (cell log2 s k)))

-- bit s is set where sub-block s, of those below n, holds a level
unfoldable pub map_of : ℕ → (ℕ → ℕ) → ℕ
map_of n counts = sum_to n (λ s. 2 ^ s * min 1 (counts s))

unfoldable pub fresh_whole : ℕ → List ℤ → Whole
fresh_whole log2 levels =
    record {
      count = sum_to (area log2) (λ place. nonzero (level_at levels place));
      sum = sum_to (area log2) (λ place. nat_abs (level_at levels place));
      map = map_of (subs log2) (count_in log2 levels);
    }

-- the greatest sum of sixteen magnitudes of 32 bits; no sub-block of such levels has a greater one
abbrev pub sub_most : ℕ
sub_most = 16 * 4294967295

abbrev pub Small : ℕ → List ℤ → Type 0
Small log2 levels = (s : ℕ) → s < subs log2 → sum_in log2 levels s ≤ sub_most

-- ---- a block and what is kept beside it
pub record Kept : Type 0 where
  pub levels : List ℤ
  pub counts : List ℕ  -- a record for each sub-block: its count,
  pub sums : List ℕ  -- and its sum
  pub whole : Whole

-- what is kept is what a fresh count gives
pub record True (log2 : ℕ) (k : Kept) : Type 0 where
  pub counted : (s : ℕ) → s < subs log2 → get_or k.counts s 0 ≡ count_in log2 k.levels s
  pub summed : (s : ℕ) → s < subs log2 → get_or k.sums s 0 ≡ sum_in log2 k.levels s
  pub all : k.whole ≡ fresh_whole log2 k.levels
  pub small : Small log2 k.levels  -- of any levels of 32 bits: so no sum above stops

-- what a change promises of it: true wherever it counted, whatever stood before, and else as true as it was
pub record Keeps (log2 : ℕ) (Counted : Type 0) (k k' : Kept) : Type 0 where
  pub fresh : Counted → True log2 k'
  pub stays : True log2 k → True log2 k'

-- ---- what setting one level leaves alone: every place but its own, every record but its sub-block's; the whole record may change
pub record Frame (log2 place : ℕ) (k k' : Kept) : Type 0 where
  pub levels : (p : ℕ) → (p ≡ place → ⊥) → level_at k'.levels p ≡ level_at k.levels p
  pub counts : (s : ℕ) → (s ≡ sub_of log2 place → ⊥) → get_or k'.counts s 0 ≡ get_or k.counts s 0
  pub sums : (s : ℕ) → (s ≡ sub_of log2 place → ⊥) → get_or k'.sums s 0 ≡ get_or k.sums s 0
  pub long : length k'.levels ≡ length k.levels

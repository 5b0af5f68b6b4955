-- The length of a block's longest bin list: LongestLaws proves that none is longer.
use Rattle.std.specs.Prelude.{ℕ, [], ◌∷◌, get_or}

-- in bytes, by log2: what document 01's header promises (include/bulmegart.h)
abbrev pub longest : ℕ → ℕ
longest log2 = get_or (0 ∷ 0 ∷ 1124 ∷ 4464 ∷ 17796 ∷ 71088 ∷ []) log2 0

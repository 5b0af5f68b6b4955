-- A block of n by n levels, n = 2^log2.
use Rattle.std.specs.Prelude.{ℕ, ◌^◌}

abbrev pub side : ℕ → ℕ
side log2 = 2 ^ log2

abbrev pub area : ℕ → ℕ
area log2 = 4 ^ log2

-- What a remainder is told as where it is above what any level in range has.
use Rattle.std.specs.Prelude.{ℕ}

abbrev pub most : ℕ
most = 1073741824

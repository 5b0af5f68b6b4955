-- A frame's bytes as a line of the book spells them: two lower-case hexadecimal digits each.
use Rattle.std.specs.Prelude.{ℕ, ◌+◌, ◌/◌, ◌%◌, ◌<◌, cond, List, [], ◌∷◌, leb}

unfoldable pub digit_for : ℕ → ℕ
digit_for d = cond (leb d 9) (48 + d) (87 + d)

unfoldable pub spelled : List ℕ → List ℕ
unfolding digit_for
spelled [] = []
spelled (b ∷ l) = digit_for (b / 16) ∷ digit_for (b % 16) ∷ spelled l

-- bytes
abbrev pub Octets : List ℕ → Type 0
Octets [] = Unit {0}
Octets (b ∷ l) = (b < 256) × Octets l

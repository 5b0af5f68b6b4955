-- The number of a place in a scan order, by formula.
use Rattle.std.specs.Prelude.{ℕ, zero, suc, ◌+◌, ◌-◌, ◌*◌, ◌/◌, cond, ltb}

-- 1 + 2 + .. + n
abbrev pub triangle : ℕ → ℕ
triangle n = n * (n + 1) / 2

-- on the diagonals up to the longest counted from the start, behind it from the end
unfoldable pub diagonal_number : ℕ → ℕ → ℕ → ℕ
diagonal_number w x y =
    cond (ltb (x + y) w) (triangle (x + y) + x)
    (w * w - 1 - (triangle (2 * w - 2 - (x + y)) + (w - 1 - x)))

-- the number of (x, y) in a w×w grid, by scanIdx
unfoldable pub number_by : ℕ → ℕ → ℕ → ℕ → ℕ
unfolding diagonal_number
number_by w zero x y = diagonal_number w x y
number_by w (suc zero) x y = y * w + x
number_by w (suc (suc s)) x y = x * w + y

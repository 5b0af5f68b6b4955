-- What the scale's writer speaks of.
use Rattle.std.specs.Prelude.{ℕ, cond, eqb, ℤ, Option, Some, None}
use Rattle.hevc_residual.specs.Wanted.{Wanted}

-- the value of a magnitude; none of one that no scale has
unfoldable pub value_of : ℕ → Option ℕ
value_of m = cond (eqb m 0) (Some 0) (cond (eqb m 1) (Some 1) (cond (eqb m 2) (Some 2) (cond (eqb m 4) (Some 3) (cond (eqb m 8) (Some 4) None))))

-- a tree of a block's wants, in which one scale is wanted
abbrev pub only : ℤ → Wanted → ℤ
only z w = z

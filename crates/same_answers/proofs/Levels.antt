-- Lists of levels: `==` says whether they are equal. Assumes nothing.
use Rattle.std.specs.Prelude.{◌≡◌, ℤ, List}
use Rattle.std.specs.Bool.{Decides}
use Rattle.std.specs.Ordering.{int_eq}
use Rattle.std.specs.Cmp.Rules.{signed_items}
use lib.Pointwise.{pointwise}

pub levels_equal : (xs ys : List ℤ) → Decides (pointwise int_eq xs ys) (xs ≡ ys)
levels_equal xs ys = signed_items xs ys

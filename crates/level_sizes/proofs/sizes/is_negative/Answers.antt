use mathlib.Core.Path.{ap, ◌∙◌}
use lib.IntN.{pos}
use lib.Signed.{lt_z}
use mir.Facts.{to_z-of_z}
use Rattle.level_sizes.specs.SignLaws.{negative_is}
use Rattle.level_sizes.proofs.sizes.is_negative.Goals as goal

-- `is_negative` meets its contract. Assumes nothing.
pub returns : goal.returns
returns c = ap (λ z. lt_z z (pos 0)) (to_z-of_z c.ranges.v) ∙ negative_is c.args.v
